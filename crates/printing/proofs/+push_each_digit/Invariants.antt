use Rattle.printing.proofs.+push_each_digit.Given as goal

abbrev pub decreases-push_each_digit : goal.decreases-push_each_digit
decreases-push_each_digit g l = l.n

-- The struct that C gets, as the answer of docs/RULES.md: field by field, under the same names.
use Rattle.lines.specs.Fit.{Answer}
use Rattle.c_lines.specs.declared.LineFields.{LineFields}

abbrev pub line_fields : LineFields → Answer
line_fields x = record { number = x.number; a = x.a; b = x.b; r = x.r }

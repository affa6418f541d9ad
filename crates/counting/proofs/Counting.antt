-- Dates and days of any calendar in which every year has days: each day has a date, each date its day, and their orders agree.
use mathlib.Core.Path.{◌≡◌, refl, sym, ap, ◌∙◌}
use Prim.Native.Nat.{ℕ, zero, suc, ◌+◌, ◌-◌, ◌≤◌, ◌<◌}
use mathlib.Core.List.{List}
use mathlib.Core.Logic.{◌⊎◌, inl, inr, ◌↔◌}
use native.Mathlib.Omega.{arith}
use native.Mathlib.Decide.{le_ind}
use lib.ListN.{take, drop}
use lib.Seq.{get_or-drop}
use borrow.Author.Tests.{lt-ltb, le-ltb}
use Rattle.counting.specs.Calendar.{total, start, Date, len, Valid, day_of, first_from, new_year, next, date_at, Before}
use Rattle.counting.specs.InYear.{InYear}
use Rattle.counting.specs.Calendar.Before.{by_year, by_month, by_day}
use Rattle.basics.proofs.Order.{le_or_lt, by_order}
use Rattle.counting.proofs.Totals.{total_split, total_take_suc, total_take_add, total_take_mono, first}

-- D is E by its three numbers
same : (D E : Date) → D.year ≡ E.year → D.month ≡ E.month → D.day ≡ E.day → D ≡ E
same D E p q r = λ t. record { year = p t; month = q t; day = r t }

-- exactly one of three
data Order (m n : ℕ) : Type 0 where
  less : m < n → Order m n
  equal : m ≡ n → Order m n
  more : n < m → Order m n

order : (m n : ℕ) → Order m n
order m n = by_order m n less equal more

module _ (L : ℕ → List ℕ) where
  pub start_mono : (i j : ℕ) → i ≤ j → start L i ≤ start L j
  unfolding start
  start_mono i j = le_ind (λ (k : ℕ). start L i ≤ start L k) (omega arith) (λ k h r. omega arith) j

  -- the day of a valid date is before the end of its month
  month_ends : (i m d : ℕ) → 1 ≤ m → 1 ≤ d → d ≤ len (L i) m → total (take (m - 1) (L i)) + (d - 1) < total (take m (L i))
  month_ends i m d hm hd h =
      let e : suc (m - 1) ≡ m = omega arith in
      omega (arith, total_take_suc (m - 1) (L i), ap (λ (n : ℕ). total (take n (L i))) e)

  -- a valid date is in its year
  pub in_year : (D : Date) → Valid L D → (start L D.year ≤ day_of L D) × (day_of L D < start L (suc D.year))
  unfolding day_of start
  in_year D g =
      let h = month_ends D.year D.month D.day g.month_from_1 g.day_from_1 g.day_in_month in
      omega (arith, total_split D.month (L D.year))

  earlier : (D E : Date) → Valid L D → Valid L E → Before D E → day_of L D < day_of L E
  unfolding day_of
  earlier D E g k (by_year h) = omega (arith, in_year D g, in_year E k, start_mono (suc D.year) E.year h)
  earlier D E g k (by_month e h) = go D.year E.year e g.day_in_month
    where
      go : (i j : ℕ) → i ≡ j → D.day ≤ len (L i) D.month
          → day_of L (record { year = i; month = D.month; day = D.day }) < day_of L (record { year = j; month = E.month; day = E.day })
      go i j e d =
          let a : start L i ≡ start L j = ap (start L) e in
          let b = month_ends i D.month D.day g.month_from_1 g.day_from_1 d in
          let f : total (take (E.month - 1) (L i)) ≡ total (take (E.month - 1) (L j)) = ap (λ (n : ℕ). total (take (E.month - 1) (L n))) e in
          omega (arith, total_take_mono D.month (E.month - 1) (L i) (omega arith))
  earlier D E g k (by_day e f h) = go D.year E.year e D.month E.month f
    where
      go : (i j : ℕ) → i ≡ j → (m n : ℕ) → m ≡ n
          → day_of L (record { year = i; month = m; day = D.day }) < day_of L (record { year = j; month = n; day = E.day })
      go i j e m n f =
          let a : start L i ≡ start L j = ap (start L) e in
          let b : total (take (m - 1) (L i)) ≡ total (take (n - 1) (L j)) = cc in
          omega (arith, g.day_from_1)

  -- two dates are the same or one is before the other
  data Compared (D E : Date) : Type 0 where
    before : Before D E → Compared D E
    one : D ≡ E → Compared D E
    after : Before E D → Compared D E

  compared : (D E : Date) → Compared D E
  compared D E = by_years (order D.year E.year)
    where
      by_days : D.year ≡ E.year → D.month ≡ E.month → Order D.day E.day → Compared D E
      by_days p q (less h) = before (by_day p q h)
      by_days p q (equal r) = one (same D E p q r)
      by_days p q (more h) = after (by_day (sym p) (sym q) h)

      by_months : D.year ≡ E.year → Order D.month E.month → Compared D E
      by_months p (less h) = before (by_month p h)
      by_months p (equal q) = by_days p q (order D.day E.day)
      by_months p (more h) = after (by_month (sym p) h)

      by_years : Order D.year E.year → Compared D E
      by_years (less h) = before (by_year h)
      by_years (equal p) = by_months p (order D.month E.month)
      by_years (more h) = after (by_year h)

  -- the order of valid dates is the order of their days
  pub orders_agree : (D E : Date) → Valid L D → Valid L E → Before D E ↔ (day_of L D < day_of L E)
  orders_agree D E g k = (earlier D E g k, λ h. go h (compared D E))
    where
      go : day_of L D < day_of L E → Compared D E → Before D E
      go h (before b) = b
      go h (one e) = absurd (omega (arith, ap (day_of L) e))
      go h (after b) = absurd (omega (arith, earlier E D k g b))

  -- a day is in one year
  pub one_year : (n i j : ℕ) → InYear L n i → InYear L n j → i ≡ j
  one_year n i j a b = go (order i j)
    where
      go : Order i j → i ≡ j
      go (less h) = absurd (omega (arith, start_mono (suc i) j h, a.still, b.begun))
      go (equal e) = e
      go (more h) = absurd (omega (arith, start_mono (suc j) i h, b.still, a.begun))

  -- a day has one date
  pub one_date : (D E : Date) → Valid L D → Valid L E → day_of L D ≡ day_of L E → D ≡ E
  one_date D E g k h = go (compared D E)
    where
      go : Compared D E → D ≡ E
      go (before b) = absurd (omega (arith, earlier D E g k b))
      go (one e) = e
      go (after b) = absurd (omega (arith, earlier E D k g b))

-- every year has days
module _ (L : ℕ → List ℕ) (has_days : (i : ℕ) → 1 ≤ total (L i)) where
  start_zero : start L 0 ≡ 0
  unfolding start
  start_zero = refl

  new_year_valid : (i : ℕ) → Valid L (new_year L i) × (day_of L (new_year L i) ≡ start L i)
  unfolding new_year day_of
  new_year_valid i =
      let f = first 1 (L i) (has_days i) in
      let e : first_from 1 (L i) - 1 ≡ f.0 = omega arith in
      (record { month_from_1 = omega arith; day_from_1 = omega arith; day_in_month = rw e f.3 }, rw e (omega arith))

  -- E is valid, and its day is the one after D's
  Follows : Date → Date → Type 0
  Follows D E = Valid L E × (day_of L E ≡ suc (day_of L D))

  next_in_month : (D : Date) (e : ℕ) → Valid L D → D.day < len (L D.year) D.month → e ≡ suc D.day
      → Follows D (record { year = D.year; month = D.month; day = e })
  unfolding Follows day_of
  next_in_month D e g h q = (record { month_from_1 = g.month_from_1; day_from_1 = omega arith; day_in_month = omega arith }, omega (arith, g.day_from_1))

  -- the days to the end of D's month, whose last day D is
  through : (D : Date) → Valid L D → len (L D.year) D.month ≤ D.day → suc (day_of L D) ≡ start L D.year + total (take D.month (L D.year))
  unfolding day_of
  through D g h =
      let e : suc (D.month - 1) ≡ D.month = omega (arith, g.month_from_1) in
      omega (arith, g.day_from_1, g.day_in_month, total_take_suc (D.month - 1) (L D.year), ap (λ (n : ℕ). total (take n (L D.year))) e)

  next_in_year : (D : Date) (m : ℕ) → Valid L D → len (L D.year) D.month ≤ D.day → 1 ≤ total (drop D.month (L D.year)) → m ≡ suc D.month
      → Follows D (record { year = D.year; month = first_from m (drop D.month (L D.year)); day = 1 })
  unfolding Follows day_of
  next_in_year D m g h k q =
      let f = first m (drop D.month (L D.year)) k in
      let e : first_from m (drop D.month (L D.year)) - 1 ≡ D.month + f.0 = omega arith in (
        record { month_from_1 = omega arith; day_from_1 = omega arith; day_in_month = rw (e, ← get_or-drop) f.3 },
        rw e (omega (arith, through D g h, total_take_add D.month f.0 (L D.year))),
      )

  next_is_new_year : (D : Date) (i : ℕ) → Valid L D → len (L D.year) D.month ≤ D.day → total (drop D.month (L D.year)) ≤ 0 → i ≡ suc D.year
      → Follows D (new_year L i)
  unfolding Follows start
  next_is_new_year D i g h k e =
      let n = new_year_valid i in
      (n.0, omega (arith, n.1, through D g h, total_split D.month (L D.year), ap (start L) e))

  next_follows : (D : Date) → Valid L D → Follows D (next L D)
  unfolding next
  next_follows D g = go (le_or_lt l D.day) (le_or_lt r 0)
    where
      l : ℕ
      l = len (L D.year) D.month

      r : ℕ
      r = total (drop D.month (L D.year))

      go : (l ≤ D.day) ⊎ (D.day < l) → (r ≤ 0) ⊎ (0 < r) → Follows D (next L D)
      go (inr h) k = rw (lt-ltb D.day l h) (next_in_month D _ g h (omega arith))
      go (inl h) (inr k) = rw (le-ltb D.day l h, lt-ltb 0 r k) (next_in_year D _ g h k (omega arith))
      go (inl h) (inl k) = rw (le-ltb D.day l h, le-ltb 0 r k) (next_is_new_year D _ g h k (omega arith))

  pub next_day : (D : Date) → Valid L D → Valid L (next L D) × (day_of L (next L D) ≡ suc (day_of L D))
  unfolding Follows
  next_day D g = next_follows D g

  -- the date that counting reaches at day n is valid, and its day is n
  pub counted : (n : ℕ) → Valid L (date_at L n) × (day_of L (date_at L n) ≡ n)
  unfolding date_at Follows
  counted zero = ((new_year_valid _).0, (new_year_valid _).1 ∙ ap (start L) (omega arith) ∙ start_zero)
  counted (suc n) =
      let c = counted n in
      let f = next_follows (date_at L n) c.0 in
      (f.0, f.1 ∙ ap suc c.1)

  -- counting the days of a valid date reaches the date
  pub date_of_day : (D : Date) → Valid L D → date_at L (day_of L D) ≡ D
  date_of_day D g = let c = counted (day_of L D) in one_date L (date_at L (day_of L D)) D c.0 g c.1

  -- the date of day n is any valid date of that day
  pub date_is : (n : ℕ) (D : Date) → Valid L D → day_of L D ≡ n → date_at L n ≡ D
  date_is n D g h = ap (date_at L) (sym h) ∙ date_of_day D g

-- What services are worth is at most what the inputs of a list are, by how often each input begins one.
use Rattle.std.proofs.Common.{◌≡◌, ℕ, suc, ◌+◌, ◌*◌, ◌≤◌, ◌⊎◌, inl, inr, Bool, true, false, cond, List, [], ◌∷◌, ◌++◌, refl, sym, ap, ◌∙◌, arith}
use Rattle.std.specs.Prelude.{◌==◌, nat_le}
use Rattle.std.proofs.lemmas.Bool.{le-leb, eq-eqb}
use Rattle.chain_moves.specs.Servicing.{Service}
use Rattle.chain_time.specs.Stretch.{total}
use Rattle.chain_time.specs.Counts.{Timed, worth, time_of, times, Has, AllHave, AreFew, CountsAreSound}

-- ---- what services are worth, each so much
abbrev pub values : (Service → ℕ) → List Service → ℕ
values value [] = 0
values value (e ∷ begun) = value e + values value begun

pub values_append : (value : Service → ℕ) (a b : List Service) → values value (a ++ b) ≡ values value a + values value b
values_append value [] b = omega arith
values_append value (e ∷ a) b = let i = values_append value a b in omega arith

suc_times : (n c : ℕ) → suc n * c ≡ n * c + c
suc_times n c = grind arith

mono : (n k c : ℕ) → n ≤ k → n * c ≤ k * c
mono n k c l = grind arith

-- ---- and what the inputs of a list are, where one service of each is worth so much
module _ (w : Timed → ℕ) where
  abbrev pub whole : List Timed → ℕ
  whole [] = 0
  whole (r ∷ rs) = r.count * w r + whole rs

  -- the list has the input, and there a service of it is worth at least so much
  abbrev pub IsWorth : ℕ → ℕ → List Timed → Type 0
  IsWorth input x [] = ⊥
  IsWorth input x (r ∷ rs) = ((r.input ≡ input) × (x ≤ w r)) ⊎ IsWorth input x rs

  abbrev pub AreWorth : (Service → ℕ) → List Timed → List Service → Type 0
  AreWorth value rs [] = Unit {0}
  AreWorth value rs (e ∷ begun) = IsWorth e.number (value e) rs × AreWorth value rs begun

  -- what these services are worth, input by input
  abbrev sums : List Timed → List Service → ℕ
  sums [] begun = 0
  sums (r ∷ rs) begun = times r.input begun * w r + sums rs begun

  -- ---- one service more
  one_more : (b : Bool) (n c : ℕ) → n * c ≤ cond b (suc n) n * c
  one_more true n c = let s = suc_times n c in omega arith
  one_more false n c = omega arith

  grows : (rs : List Timed) (e : Service) (begun : List Service) → sums rs begun ≤ sums rs (e ∷ begun)
  unfolding times
  grows [] e begun = omega arith
  grows (r ∷ rs) e begun =
      let i = grows rs e begun in
      let o = one_more (e.number == r.input) (times r.input begun) (w r) in
      omega arith

  here : (r : Timed) (e : Service) (begun : List Service) → r.input ≡ e.number → times r.input (e ∷ begun) * w r ≡ times r.input begun * w r + w r
  unfolding times
  here r e begun same =
      ap (λ b. cond b (suc (times r.input begun)) (times r.input begun) * w r) (eq-eqb e.number r.input (sym same)) ∙ suc_times (times r.input begun) (w r)

  added : (rs : List Timed) (e : Service) (x : ℕ) (begun : List Service) → IsWorth e.number x rs → sums rs begun + x ≤ sums rs (e ∷ begun)
  added [] e x begun h = absurd h
  added (r ∷ rs) e x begun (inl h) =
      let g = grows rs e begun in
      let o = here r e begun h.0 in
      let l = h.1 in
      omega arith
  added (r ∷ rs) e x begun (inr h) =
      let i = added rs e x begun h in
      let o = grows (r ∷ []) e begun in
      omega arith

  by_input : (value : Service → ℕ) (rs : List Timed) (begun : List Service) → AreWorth value rs begun → values value begun ≤ sums rs begun
  by_input value rs [] h = omega arith
  by_input value rs (e ∷ begun) h =
      let i = by_input value rs begun h.1 in
      let a = added rs e (value e) begun h.0 in
      omega arith

  at_most : (rs : List Timed) (begun : List Service) → AreFew rs begun → sums rs begun ≤ whole rs
  at_most [] begun h = omega arith
  at_most (r ∷ rs) begun h =
      let i = at_most rs begun h.1 in
      let o = mono (times r.input begun) r.count (w r) h.0 in
      omega arith

  pub worth_at_most : (value : Service → ℕ) (rs : List Timed) (begun : List Service) → AreWorth value rs begun → AreFew rs begun → values value begun ≤ whole rs
  worth_at_most value rs begun h few =
      let a = by_input value rs begun h in
      let b = at_most rs begun few in
      omega arith

-- ---- of the inputs of at least a level
abbrev pub worth_from : ℕ → Timed → ℕ
worth_from level r = cond (nat_le level r.level) (worth r) 0

times_by : (b : Bool) (n c : ℕ) → cond b (n * c) 0 ≡ n * cond b c 0
times_by true n c = refl
times_by false n c = grind arith

pub time_is : (rs : List Timed) (level : ℕ) → whole (worth_from level) rs ≡ time_of rs level
unfolding time_of
time_is [] level = refl
time_is (r ∷ rs) level =
    let i = time_is rs level in
    let o = times_by (nat_le level r.level) r.count (worth r) in
    omega arith

-- ---- the law
way_from : (b : Bool) (x y : ℕ) → b ≡ true → x ≤ y → x ≤ cond b y 0
way_from true x y e l = l
way_from false x y e l = absurd cc

has_worth : (level input way : ℕ) (rs : List Timed) → Has level input way rs → IsWorth (worth_from level) input (14 + way + 16) rs
has_worth level input way [] h = absurd h
has_worth level input way (r ∷ rs) (inl h) = let l = h.2 in inl (h.0, way_from (nat_le level r.level) (14 + way + 16) (worth r) (le-leb level r.level h.1) (omega arith))
has_worth level input way (r ∷ rs) (inr h) = inr (has_worth level input way rs h)

all_worth : (rs : List Timed) (level : ℕ) (paths : ℕ → ℕ) (begun : List Service) → AllHave level paths rs begun → AreWorth (worth_from level) (λ e. 14 + paths e.number + 16) rs begun
all_worth rs level paths [] h = tt
all_worth rs level paths (e ∷ begun) h = (has_worth level e.number (paths e.number) rs h.0, all_worth rs level paths begun h.1)

total_is : (paths : ℕ → ℕ) (begun : List Service) → total paths begun ≡ values (λ e. 14 + paths e.number + 16) begun
total_is paths [] = refl
total_is paths (e ∷ begun) = let i = total_is paths begun in omega arith

pub counts_are_sound : CountsAreSound
counts_are_sound rs level paths begun h few =
    let a = worth_at_most (worth_from level) (λ e. 14 + paths e.number + 16) rs begun (all_worth rs level paths begun h) few in
    let b = total_is paths begun in
    let c = time_is rs level in
    omega arith

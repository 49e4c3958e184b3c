-- What the frame asks of a command's plan.
use Rattle.std.proofs.Common.{◌≡◌, ℕ, ◌+◌, List, true, false, take, length, length-take, nat_lt, Result, Ok, Err, refl, ap, arith, inl, inr}
use Rattle.std.proofs.lemmas.Bool.{cases_lt, lt-ltb}
use Rattle.std.proofs.lemmas.List.{take_all}
use Rattle.tool_frame.specs.Due.{Due}
use Rattle.tool_frame.specs.Plan.{Plan, Makes, Refuses, Asks, go_on, measured, reads}
use Rattle.tool_frame.specs.Code.{OfCommand, origin_of}
use Rattle.tool_frame.specs.declared.status.Status.{Status}

-- a file's limit and one byte more tell what becomes of it, and whatever is due of the work is one of these
abbrev pub Fits : {B : Type 0} → (Due → Type 0) → Plan B → Type 0
Fits P (Makes due left) = P due
Fits P (Refuses line) = Unit {0}
Fits P (Asks name limit next) = ((content : List ℕ) → next (take (limit + 1) content) ≡ next content) × ((bytes : List ℕ) → Fits P (next bytes))

-- the status is one of a command's own
abbrev pub IsOfCommand : Due → Type 0
IsOfCommand due = origin_of due.status ≡ OfCommand

-- and its text is written after all memory was had
pub record IsAtOnce (S : Status → Type 0) (due : Due) : Type 0 where
  pub status : S due.status
  pub at_once : due.in_parts ≡ false

pub fits_more : {B : Type 0} (P Q : Due → Type 0) → ((due : Due) → P due → Q due) → (plan : Plan B) → Fits P plan → Fits Q plan
fits_more P Q more (Makes due left) fits = more due fits
fits_more P Q more (Refuses line) fits = tt
fits_more P Q more (Asks name limit next) fits = (fits.0, λ bytes. fits_more P Q more (next bytes) (fits.1 bytes))

-- a file that is read, and a plan that fits whatever it gives
same_measured : {A : Type 0} (role : List ℕ) (limit : ℕ) (read : List ℕ → Result A (List ℕ)) (content : List ℕ) → measured role limit read (take (limit + 1) content) ≡ measured role limit read content
unfolding measured
same_measured role limit read content = elim (cases_lt limit (length content)) [
  | inl large ↦
      let whole : nat_lt limit (length content) ≡ true = lt-ltb _ _ large in
      let front : nat_lt limit (length (take (limit + 1) content)) ≡ true = lt-ltb _ _ (omega (arith, length-take (limit + 1) content)) in
      rw (whole, front) refl
  | inr few ↦ let all : take (limit + 1) content ≡ content = take_all (limit + 1) content (omega arith) in rw all refl
]

fits_on : {A B : Type 0} (P : Due → Type 0) (read : Result A (List ℕ)) (next : A → Plan B) → ((x : A) → Fits P (next x)) → Fits P (go_on read next)
fits_on P (Ok x) next all = all x
fits_on P (Err line) next all = tt

pub fits_reads : {A B : Type 0} (P : Due → Type 0) (role : List ℕ) (limit : ℕ) (read : List ℕ → Result A (List ℕ)) (name : List ℕ) (next : A → Plan B) → ((x : A) → Fits P (next x)) → Fits P (reads role limit read name next)
fits_reads {A} {B} P role limit read name next all =
    (λ content. ap (λ (r : Result A (List ℕ)). go_on r next) (same_measured role limit read content), λ bytes. fits_on P (measured role limit read bytes) next all)

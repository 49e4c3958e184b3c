-- States of which the rest and the memory were kept at the same times.
use Rattle.std.proofs.Common.{◌≡◌, ℕ, zero, suc, min, List, [], ◌∷◌, length, take, refl, sym, ap, ◌∙◌, arith, length-take}
use Rattle.std.specs.List.{All}
use Rattle.std.proofs.lemmas.List.Elements.{All-take}
use Rattle.clic_regs.specs.Shape.{ClicShape}
use Rattle.hart_board.specs.Valid.{HaveShape}
use Rattle.hart_memory.specs.Memory.{Memory}
use Rattle.csr_file.specs.CsrState.{CsrState}
use Rattle.hart_board.specs.State.{Outside, Moment, Rest, State, moments, with_kept}

pub moments_front : (n : ℕ) (rests : List Rest) (memories : List Memory) → moments (take n rests) (take n memories) ≡ take n (moments rests memories)
moments_front zero rests memories = refl
moments_front (suc n) [] memories = refl
moments_front (suc n) (r ∷ rests) [] = refl
moments_front (suc n) (r ∷ rests) (m ∷ memories) = ap (λ ms. record { registers = r.registers; pc = r.pc; csrs = r.csrs; memory = m; outside = r.outside } ∷ ms) (moments_front n rests memories)

-- ---- the shape that the controller had in them

rests_after : (shape : ClicShape) (r : Rest) (rests : List Rest) → HaveShape shape (r ∷ rests) → HaveShape shape rests
rests_after shape r rests h k d l = h (suc k) d (omega arith)

pub moments_have : (shape : ClicShape) (rests : List Rest) (memories : List Memory) → HaveShape shape rests → All (λ (kept : Moment). kept.outside.clic.shape ≡ shape) (moments rests memories)
moments_have shape [] memories h k d l = absurd (omega arith)
moments_have shape (r ∷ rests) [] h k d l = absurd (omega arith)
moments_have shape (r ∷ rests) (m ∷ memories) h zero d l = h 0 r (omega arith)
moments_have shape (r ∷ rests) (m ∷ memories) h (suc k) d l = moments_have shape rests memories (rests_after shape r rests h) k d (omega arith)

pub first_has : (shape : ClicShape) (n : ℕ) (r : Rest) (rests : List Rest) → r.outside.clic.shape ≡ shape → HaveShape shape rests → HaveShape shape (take n (r ∷ rests))
first_has shape n r rests e h = All-take (λ (rest : Rest). rest.outside.clic.shape ≡ shape) n (r ∷ rests) all
  where
    all : HaveShape shape (r ∷ rests)
    all zero d l = e
    all (suc k) d l = h k d (omega arith)

-- ---- how many there are

pub moments_len : (rests : List Rest) (memories : List Memory) → length rests ≡ length memories → length (moments rests memories) ≡ length memories
moments_len [] [] e = refl
moments_len [] (m ∷ memories) e = absurd (omega (arith, e))
moments_len (r ∷ rests) [] e = absurd (omega (arith, e))
moments_len (r ∷ rests) (m ∷ memories) e = let f : length rests ≡ length memories = omega arith in ap suc (moments_len rests memories f)

pub first_alike : (n : ℕ) (rests : List Rest) (memories : List Memory) → length rests ≡ length memories → length (take n rests) ≡ length (take n memories)
first_alike n rests memories e = length-take n rests ∙ ap (λ k. min n k) e ∙ sym (length-take n memories)

pub state_kept : (registers : List ℕ) (pc : ℕ) (csrs : CsrState) (memory : Memory) (outside : Outside) (rests : List Rest) (memories : List Memory)
    → ◌≡◌ {A = State} (record { registers = registers; pc = pc; csrs = csrs; memory = memory; outside = outside; kept = moments (record { registers = registers; pc = pc; csrs = csrs; outside = outside } ∷ take 15 rests) (memory ∷ take 15 memories) })
    (with_kept (record { registers = registers; pc = pc; csrs = csrs; memory = memory; outside = outside; kept = moments rests memories }))
state_kept registers pc csrs memory outside rests memories =
    ap (λ ms. record { registers = registers; pc = pc; csrs = csrs; memory = memory; outside = outside; kept = record { registers = registers; pc = pc; csrs = csrs; memory = memory; outside = outside } ∷ ms }) (moments_front 15 rests memories)

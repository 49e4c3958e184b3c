-- What is known after an instruction, part by part.
use Rattle.std.proofs.Common.{◌≡◌, ℕ, List, refl, ap, ◌∙◌}
use Rattle.rv_encoding.specs.declared.instruction.Ins.{Ins}
use Rattle.rv_encoding.specs.declared.instruction.Ins.TheVariants.{Store}
use Rattle.chain_certify.specs.Flow.{Value, Flow, value_of}
use Rattle.chain_certify.specs.Transfer.{values_after, words_after, words_kept, flow_after}

-- a store changes no register, and no other instruction a stack word
same_values : (code : List ℕ) (at length : ℕ) (f : Flow) (ins : Ins) → values_after code at length (record f { words = words_after f ins }) ins ≡ values_after code at length f ins
same_values code at length f (Store op rs1 rs2 imm) = refl
same_values code at length f _ = refl

pub changed : (code : List ℕ) (f g h k : Flow) (at length : ℕ) (ins : Ins) → g ≡ record f { words = words_after f ins } → h ≡ record g { values = values_after code at length g ins } → k ≡ record h { words = words_kept (value_of h.values 2) h.words } → k ≡ flow_after code at length f ins
unfolding flow_after
changed code f g h k at length ins a b c =
    c
    ∙ (ap (λ (x : Flow). record x { words = words_kept (value_of x.values 2) x.words }) b
    ∙ (ap (λ (x : Flow). record { values = values_after code at length x ins; words = words_kept (value_of (values_after code at length x ins) 2) x.words }) a
    ∙ ap (λ (vs : List Value). record { values = vs; words = words_kept (value_of vs 2) (words_after f ins) }) (same_values code at length f ins)))

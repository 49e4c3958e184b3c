-- Where an instruction goes on, by what was found at its address.
use Rattle.std.proofs.Common.{◌≡◌, ℕ, true, false, List, [], ◌∷◌, Option, Some, None, sym, ap, ◌∙◌}
use Rattle.rv_encoding.specs.declared.instruction.Ins.{Ins}
use Rattle.rvc_encoding.specs.Decoding.{decoded}
use Rattle.chain_flow.specs.Flow.{Flow, flow_at_start}
use Rattle.chain_flow.specs.Rules.{Looked, Passed}
use Rattle.chain_flow.specs.Transfer.{targets}
use Rattle.chain_flow.specs.Look.{IsCodeAt, look_of, GoesOnAt, onward_of}
use Rattle.chain_flow.specs.Onward.{onward, onward_code, onward_fetched, onward_ins}
use Rattle.chain_flow.specs.declared.look.Look.{Look}
use Rattle.chain_flow.specs.declared.look.Look.TheVariants.{Refuses, Returns, GoesTo, Branches}

pub onward_outside : (code : List ℕ) (at : ℕ) (found : Option (ℕ × ℕ)) → IsCodeAt code at found → found ≡ None → None ≡ onward code at
unfolding onward
onward_outside code at None h e = sym (ap (onward_code code at) h)
onward_outside code at (Some found) h e = absurd cc

pub onward_bits : (code : List ℕ) (at : ℕ) (found : Option (ℕ × ℕ)) (bits length : ℕ) → IsCodeAt code at found → found ≡ Some (bits, length) → onward code at ≡ onward_ins at length (decoded bits length)
unfolding onward
onward_bits code at None bits length h e = absurd cc
onward_bits code at (Some found) bits length h e =
    let first : found.0 ≡ bits = cc in
    let second : found.1 ≡ length = cc in
    ap (onward_code code at) h.0
    ∙ (ap (onward_fetched at) h.1
    ∙ (ap (λ n. onward_ins at n (decoded found.0 n)) second
    ∙ ap (λ b. onward_ins at length (decoded b length)) first))

-- what says where it goes on says so too where it may be missing
pub onward_same : (look : Look) (ts : List ℕ) → GoesOnAt look ts → onward_of look ≡ Some ts
onward_same (Refuses why) ts h = let e = h flow_at_start in absurd cc
onward_same Returns ts h = let e = h flow_at_start in let same : [] ≡ ts = cc in ap Some same
onward_same (GoesTo target) ts h = let e = h flow_at_start in let same : target ∷ [] ≡ ts = cc in ap Some same
onward_same (Branches far near) ts h = let e = h flow_at_start in let same : far ∷ near ∷ [] ≡ ts = cc in ap Some same

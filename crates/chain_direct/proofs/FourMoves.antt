-- Each move that is made is one of the four, and of one alone.
use Rattle.std.proofs.Common.{◌≡◌, ℕ, List, inl, inr, Bool, true, false, Option, Some, None, refl, sym, ap, ap₂, ◌∙◌, Result, Ok, Err, ◌+◌}
use Rattle.std.proofs.lemmas.Bool.{true≢false}
use Rattle.device_model.specs.Meanings.{Meanings}
use Rattle.clic_select.specs.Top.{top}
use Rattle.clic_select.specs.declared.choice.Choice.{Choice}
use Rattle.rv_encoding.specs.declared.instruction.Ins.{Ins}
use Rattle.rv_encoding.specs.declared.instruction.Ins.TheVariants.{Mret}
use Rattle.hart_exec.specs.Effect.{effect}
use Rattle.hart_exec.specs.declared.effect.Effect.{Effect}
use Rattle.hart_memory.specs.Fetch.{fetched}
use Rattle.hart_memory.specs.declared.fetched.Fetched.{Fetched}
use Rattle.hart_memory.specs.declared.fetched.Fetched.TheVariants.{Bits, Missing}
use Rattle.hart_board.specs.State.{State}
use Rattle.hart_board.specs.Attempt.{performed}
use Rattle.rvc_encoding.specs.Decoding.{decoded}
use Rattle.hart_board.specs.declared.trap.Trap.{Trap}
use Rattle.hart_board.specs.declared.event.Event.{Event}
use Rattle.chain_moves.specs.Servicing.{Servicing, marks}
use Rattle.chain_moves.specs.Tests.{first_broken, first_tests, second_tests, access_tests}
use Rattle.chain_moves.specs.Machine.{When, Before, After, Moved, Makes, Breaks, Ends, unless_broken}
use Rattle.chain_moves.specs.Enter.{is_enter_due, table_address}
use Rattle.chain_moves.specs.Body.{hart, with_hart, dead_after, is_long_at}
use Rattle.chain_moves.specs.Moves.{move}
use Rattle.chain_moves.specs.Kinds.{IsMove}
use Rattle.chain_moves.specs.declared.broken.Broken.{Broken}
use Rattle.chain_moves.specs.declared.broken.Broken.TheVariants.{HardVectored}
use Rattle.chain_moves.specs.declared.moves.Move.{Move}
use Rattle.chain_moves.specs.declared.moves.Move.TheVariants.{Enter, Leave, Body}
use Rattle.chain_moves.proofs.OneOfThree.{WhereMade, unless, at_made, move_is, one_is}
use Rattle.chain_moves.proofs.Nested.{passed}
use Rattle.chain_direct.specs.Kind.{Kind, Begin, Plain}
use Rattle.chain_direct.specs.Directed.{Direct, Directed}
use Rattle.chain_direct.specs.DirectBody.{direct_instruction_tests, ended_tests, with_its_events, direct_performed, direct_made, direct_decoded, direct_fetched, direct_body}
use Rattle.chain_direct.specs.DirectMoves.{begin_tests, vectored, with_move, entering_by, moved_alone, moved_by, direct_move}
use Rattle.chain_direct.specs.DirectKinds.{Chains, IsDirectMove}

-- a Body that is counted, lists nothing and leaves the live services as they are
abbrev pub IsPlainBody : Directed → Kind → Directed → Type 0
IsPlainBody s kind t = (kind ≡ Plain Body) × (t.chained.bodies ≡ s.chained.bodies + 1) × (t.services ≡ s.services) × (t.chained.live ≡ s.chained.live) × (t.chained.services ≡ s.chained.services)

module _ (m : Meanings) (es : List Event) where
  -- ---- a direct service's instruction is a Body

  performed_plain : (s : Directed) (e : Effect) (r : Result State Trap) → WhereMade (IsPlainBody s) (direct_performed m es s e r)
  performed_plain s e (Err trap) = tt
  performed_plain s e (Ok new) =
      unless (IsPlainBody s) Before (first_broken (access_tests (marks s.chained.live) s.chained.dead e)) s.chained.bodies
      (Makes (Plain Body) (record s { chained = with_its_events m es (with_hart s.chained new (dead_after s.chained.dead e)) })) (λ none. (refl, refl, refl, refl, refl))

  made_plain : (s : Directed) (v : Direct) (bits length : ℕ) (ins : Ins) → WhereMade (IsPlainBody s) (direct_made m es s v bits length ins)
  made_plain s v bits length Mret =
      unless (IsPlainBody s) After (first_broken (ended_tests v s.chained.registers)) (s.chained.bodies + 1)
      (Makes (Plain Body) (record s { chained = with_its_events m es (record s.chained { pc = v.pc; bodies = s.chained.bodies + 1 }); direct = None })) (λ none. (refl, refl, refl, refl, refl))
  made_plain s v bits length ins = performed_plain s (effect ins length s.chained.registers s.chained.pc) (performed m (hart s.chained) ins bits length)

  decoded_plain : (s : Directed) (v : Direct) (bits length : ℕ) (o : Option Ins) → WhereMade (IsPlainBody s) (direct_decoded m es s v bits length o)
  decoded_plain s v bits length None = tt
  decoded_plain s v bits length (Some ins) =
      unless (IsPlainBody s) Before (first_broken (direct_instruction_tests ins)) s.chained.bodies (direct_made m es s v bits length ins) (λ none. made_plain s v bits length ins)

  fetched_plain : (s : Directed) (v : Direct) (f : Fetched) → WhereMade (IsPlainBody s) (direct_fetched m es s v f)
  fetched_plain s v (Missing at) = tt
  fetched_plain s v (Bits bits length) = decoded_plain s v bits length (decoded bits length)

  pub body_plain : (s : Directed) (v : Direct) → WhereMade (IsPlainBody s) (direct_body m es s v)
  unfolding direct_body
  body_plain s v =
      unless (IsPlainBody s) Before (first_broken (first_tests s.chained.dead s.chained.pc)) s.chained.bodies
      (unless_broken Before (first_broken (second_tests (is_long_at s.chained.memory s.chained.pc) s.chained.dead s.chained.pc)) s.chained.bodies (direct_fetched m es s v (fetched s.chained.memory s.chained.pc)))
      (λ none. unless (IsPlainBody s) Before (first_broken (second_tests (is_long_at s.chained.memory s.chained.pc) s.chained.dead s.chained.pc)) s.chained.bodies (direct_fetched m es s v (fetched s.chained.memory s.chained.pc))
      (λ also. fetched_plain s v (fetched s.chained.memory s.chained.pc)))

  -- ---- each move that is made is one of the four
  as_chain : (s : Directed) (kind : Move) (t : Directed) → Chains m es s kind t → IsDirectMove m es s (Plain kind) t
  as_chain s Enter t h = h
  as_chain s Leave t h = h
  as_chain s Body t h = inl h

  chain_is : (s : Directed) (moved : Moved Move Servicing) → s.direct ≡ None → WhereMade (IsMove m es s.chained) moved → WhereMade (IsDirectMove m es s) (with_move s moved)
  chain_is s (Makes kind t) none h = as_chain s kind _ (record { none = none; new = t; is = h; made = refl })
  chain_is s (Breaks when kind n) none h = tt
  chain_is s Ends none h = tt

  chains : (s : Directed) → s.direct ≡ None → WhereMade (IsDirectMove m es s) (with_move s (move m es s.chained))
  chains s none = chain_is s (move m es s.chained) none (move_is m es s.chained)

  as_body : (s : Directed) (v : Direct) → m.halted s.chained.outside.device ≡ None → s.direct ≡ Some v → WhereMade (IsDirectMove m es s) (direct_body m es s v)
  as_body s v runs live = told (direct_body m es s v) refl
    where
      told : (moved : Moved Kind Directed) → direct_body m es s v ≡ moved → WhereMade (IsDirectMove m es s) moved
      told (Makes Begin t) e = absurd (no_begin (at_made (IsPlainBody s) (direct_body m es s v) (body_plain s v) Begin t e).0)
        where
          no_begin : Begin ≡ Plain Body → ⊥
          no_begin e = absurd cc
      told (Makes (Plain Body) t) e = inr (record { halted = runs; direct = v; is_live = live; made = e })
      told (Makes (Plain Enter) t) e = absurd (no_enter (at_made (IsPlainBody s) (direct_body m es s v) (body_plain s v) (Plain Enter) t e).0)
        where
          no_enter : Plain Enter ≡ Plain Body → ⊥
          no_enter e = absurd cc
      told (Makes (Plain Leave) t) e = absurd (no_leave (at_made (IsPlainBody s) (direct_body m es s v) (body_plain s v) (Plain Leave) t e).0)
        where
          no_leave : Plain Leave ≡ Plain Body → ⊥
          no_leave e = absurd cc
      told (Breaks when kind n) e = tt
      told Ends e = tt

  entering : (s : Directed) (t : Choice) (shv : Bool) → m.halted s.chained.outside.device ≡ None → s.direct ≡ None → top s.chained.outside.clic ≡ Some t → is_enter_due s.chained (Some t) ≡ true → t.shv ≡ shv → WhereMade (IsDirectMove m es s) (entering_by m es s t shv)
  entering s t true runs none e due hard =
      unless (IsDirectMove m es s) Before (first_broken (begin_tests s.chained.dead (table_address s.chained.table t.id))) s.chained.bodies (Makes Begin (vectored s t))
      (λ untested. record { halted = runs; none = none; choice = t; is_top = e; is_due = ap (is_enter_due s.chained) e ∙ due; hard = hard; untested = untested; made = refl })
  entering s t false runs none e due hard = chains s none

  alone_is : (s : Directed) (choice : Option Choice) (is_due : Bool) → m.halted s.chained.outside.device ≡ None → s.direct ≡ None → top s.chained.outside.clic ≡ choice → is_enter_due s.chained choice ≡ is_due → WhereMade (IsDirectMove m es s) (moved_alone m es s choice is_due)
  alone_is s (Some t) true runs none e due = entering s t t.shv runs none e due refl
  alone_is s (Some t) false runs none e due = chains s none
  alone_is s None is_due runs none e due = chains s none

  by_direct : (s : Directed) (direct : Option Direct) (halted : Option ℕ) → s.direct ≡ direct → m.halted s.chained.outside.device ≡ halted → WhereMade (IsDirectMove m es s) (moved_by m es s direct halted)
  by_direct s (Some v) (Some code) e h = tt
  by_direct s (Some v) None e h = as_body s v h e
  by_direct s None (Some code) e h = chains s e
  by_direct s None None e h = alone_is s (top s.chained.outside.clic) (is_enter_due s.chained (top s.chained.outside.clic)) h e refl refl

  pub direct_move_is : (s : Directed) → WhereMade (IsDirectMove m es s) (direct_move m es s)
  unfolding direct_move
  direct_move_is s = by_direct s s.direct (m.halted s.chained.outside.device) refl refl

  pub is_one_of_four : (s : Directed) (kind : Kind) (t : Directed) → direct_move m es s ≡ Makes kind t → IsDirectMove m es s kind t
  is_one_of_four s kind t e = at_made (IsDirectMove m es s) (direct_move m es s) (direct_move_is s) kind t e

  -- ---- and what is a move is made
  soft_or_quiet : (s : Directed) (o : Option Choice) (is_due : Bool) → ((t : Choice) → o ≡ Some t → is_due ≡ true → t.shv ≡ false) → moved_alone m es s o is_due ≡ with_move s (move m es s.chained)
  soft_or_quiet s (Some t) true soft = ap (entering_by m es s t) (soft t refl refl)
  soft_or_quiet s (Some t) false soft = refl
  soft_or_quiet s None is_due soft = refl

  -- a top that one of the three moves passes isn't hardware-vectored
  soft_by : (s t : Servicing) (kind : Move) (choice : Choice) → IsMove m es s kind t → top s.outside.clic ≡ Some choice → is_enter_due s (top s.outside.clic) ≡ true → choice.shv ≡ false
  soft_by s t Enter choice (runs, h) e due =
      let same : Some h.choice ≡ Some choice = sym h.is_top ∙ e in
      let hard : h.choice.shv ≡ false = (passed h.choice.shv HardVectored _ h.untested).0 in
      ap (λ (c : Choice). c.shv) (some_same (sym same)) ∙ hard
    where
      some_same : {a b : Choice} → Some a ≡ Some b → a ≡ b
      some_same e = cc
  soft_by s t Leave choice (runs, h) e due = absurd (true≢false (sym due ∙ h.no_enter))
  soft_by s t Body choice (runs, h) e due = absurd (true≢false (sym due ∙ h.no_enter))

  chain_made : (s : Directed) (kind : Move) (t : Directed) → Chains m es s kind t → direct_move m es s ≡ Makes (Plain kind) t
  unfolding direct_move
  chain_made s kind t h =
      ap₂ (moved_by m es s) h.none h.is.0
      ∙ (soft_or_quiet s (top s.chained.outside.clic) (is_enter_due s.chained (top s.chained.outside.clic)) (λ choice e due. soft_by s.chained h.new kind choice h.is e due)
      ∙ (ap (with_move s) (one_is m es s.chained kind h.new h.is)
      ∙ ap (Makes (Plain kind)) (sym h.made)))

  unless_none : (when : When) (o : Option Broken) (n : ℕ) (moved : Moved Kind Directed) → o ≡ None → unless_broken when o n moved ≡ moved
  unless_none when o n moved e = ap (λ p. unless_broken when p n moved) e

  pub one_of_four_is : (s : Directed) (kind : Kind) (t : Directed) → IsDirectMove m es s kind t → direct_move m es s ≡ Makes kind t
  unfolding direct_move
  one_of_four_is s Begin t h =
      ap₂ (moved_by m es s) h.none h.halted
      ∙ (ap₂ (moved_alone m es s) h.is_top h.is_due
      ∙ (ap (entering_by m es s h.choice) h.hard
      ∙ (unless_none Before (first_broken (begin_tests s.chained.dead (table_address s.chained.table h.choice.id))) s.chained.bodies (Makes Begin (vectored s h.choice)) h.untested
      ∙ ap (Makes Begin) (sym h.made))))
  one_of_four_is s (Plain Enter) t h = chain_made s Enter t h
  one_of_four_is s (Plain Leave) t h = chain_made s Leave t h
  one_of_four_is s (Plain Body) t (inl h) = chain_made s Body t h
  one_of_four_is s (Plain Body) t (inr h) = ap₂ (moved_by m es s) h.is_live h.halted ∙ h.made

  -- two moves from one state are the same
  made_kind : Moved Kind Directed → Kind
  made_kind (Makes kind t) = kind
  made_kind (Breaks when kind n) = Begin
  made_kind Ends = Begin

  pub alone_of_four : (s : Directed) (one other : Kind) (t u : Directed) → IsDirectMove m es s one t → IsDirectMove m es s other u → one ≡ other
  unfolding made_kind
  alone_of_four s one other t u h k = ap made_kind (sym (one_of_four_is s one t h) ∙ one_of_four_is s other u k)

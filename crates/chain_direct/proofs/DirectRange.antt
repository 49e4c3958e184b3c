-- Along a direct service the hart stays one that a board can have.
use Rattle.std.proofs.Common.{◌≡◌, ℕ, ◌%◌, ◌^◌, ◌<◌, ◌+◌, ⊎_elim, false, List, Option, Some, None, Result, Ok, Err, refl, sym, subst}
use Rattle.device_model.specs.Meanings.{Meanings, IsSound as IsSoundDevice}
use Rattle.rv_encoding.specs.declared.instruction.Ins.{Ins}
use Rattle.rv_encoding.specs.declared.instruction.Ins.TheVariants.{Mret}
use Rattle.hart_exec.specs.Effect.{effect}
use Rattle.hart_memory.specs.Fetch.{fetched}
use Rattle.hart_memory.specs.declared.fetched.Fetched.{Fetched}
use Rattle.hart_memory.specs.declared.fetched.Fetched.TheVariants.{Bits, Missing}
use Rattle.hart_board.specs.State.{State}
use Rattle.hart_board.specs.Attempt.{performed}
use Rattle.rvc_encoding.specs.Decoding.{decoded}
use Rattle.hart_board.specs.Event.{AreEventsFrom}
use Rattle.hart_board.specs.declared.event.Event.{Event}
use Rattle.hart_board.specs.declared.trap.Trap.{Trap}
use Rattle.hart_board.proofs.Keeping.{Of, performed_holds}
use Rattle.chain_moves.specs.Servicing.{marks}
use Rattle.chain_moves.specs.Tests.{first_broken, first_tests, second_tests, access_tests}
use Rattle.chain_moves.specs.Machine.{Before, After, Makes, unless_broken}
use Rattle.chain_moves.specs.Body.{hart, with_hart, dead_after, is_long_at}
use Rattle.chain_moves.specs.Ranges.{IsInRange}
use Rattle.chain_moves.specs.Watched.{watched_of}
use Rattle.chain_moves.specs.declared.broken.Broken.TheVariants.{CsrTouched}
use Rattle.chain_moves.specs.declared.moves.Move.TheVariants.{Body}
use Rattle.chain_moves.proofs.OneOfThree.{WhereMade, unless}
use Rattle.chain_moves.proofs.Depth.{Keeps, keeps_does, after_range}
use Rattle.chain_moves.proofs.Nested.{passed}
use Rattle.chain_direct.specs.Kind.{Kind, Plain}
use Rattle.chain_direct.specs.Directed.{Direct, Directed}
use Rattle.chain_direct.specs.DirectBody.{is_csr, direct_instruction_tests, ended_tests, direct_performed, direct_ended, direct_made, direct_decoded, direct_fetched, direct_body}
use Rattle.chain_direct.proofs.DirectJudged.{Other, one_of_two, gone_on, returned_to}

module _ (m : Meanings) (es : List Event) (sound : IsSoundDevice m) (n from : ℕ) (events : AreEventsFrom n from es) where
  abbrev pub InDirectRange : Kind → Directed → Type 0
  InDirectRange kind t = IsInRange m t.chained × (t.chained.outside.clic.shape.inputs ≡ n)

  module _ (s : Directed) (v : Direct) (h : IsInRange m s.chained) (same : s.chained.outside.clic.shape.inputs ≡ n) (suspends : (v.pc % 2 ≡ 0) × (v.pc < 2 ^ 32)) where
    performed_range : (ins : Ins) (length : ℕ) (r : Result State Trap) → Of (Keeps m sound n) r → WhereMade InDirectRange (direct_performed m es s (effect ins length s.chained.registers s.chained.pc) r)
    performed_range ins length (Err trap) k = tt
    performed_range ins length (Ok new) k =
        let does = effect ins length s.chained.registers s.chained.pc in
        unless InDirectRange Before (first_broken (access_tests (marks s.chained.live) s.chained.dead does)) s.chained.bodies (Makes (Plain Body) (gone_on m es s new (dead_after s.chained.dead does)))
        (λ none. after_range m es sound n from events s.chained (with_hart s.chained new (dead_after s.chained.dead does)) new h k refl)

    -- back at the pc that was suspended
    pub back_range : InDirectRange (Plain Body) (returned_to m es s v)
    back_range =
        let b = h.board in
        after_range m es sound n from events s.chained (record s.chained { pc = v.pc; bodies = s.chained.bodies + 1 }) (record (hart s.chained) { pc = v.pc }) h
        (record { registers = b.registers; pc = suspends; csrs = b.csrs; memory = b.memory; outside = b.outside }, same) refl

    ended_range : WhereMade InDirectRange (direct_ended m es s v)
    ended_range =
        unless InDirectRange After (first_broken (ended_tests v s.chained.registers)) (s.chained.bodies + 1)
        (Makes (Plain Body) (returned_to m es s v)) (λ none. back_range)

    made_range : (bits length : ℕ) (ins : Ins) → fetched s.chained.memory s.chained.pc ≡ Bits bits length → decoded bits length ≡ Some ins → is_csr ins ≡ false → WhereMade InDirectRange (direct_made m es s v bits length ins)
    made_range bits length ins f e csr =
        ⊎_elim
        (λ (q : ins ≡ Mret). subst (λ i. WhereMade InDirectRange (direct_made m es s v bits length i)) (sym q) ended_range)
        (λ (q : Other m es s v (hart s.chained) (watched_of s.chained) bits length ins). subst (λ moved. WhereMade InDirectRange moved) (sym q.made)
        (performed_range ins length (performed m (hart s.chained) ins bits length)
        (performed_holds (Keeps m sound n) m (hart s.chained) ins bits length (keeps_does m sound n (hart s.chained) ins bits length false (h.board, same) f e q.permitted))))
        (one_of_two m es s v (hart s.chained) (watched_of s.chained) bits length ins csr)

    decoded_range : (bits length : ℕ) (o : Option Ins) → fetched s.chained.memory s.chained.pc ≡ Bits bits length → decoded bits length ≡ o → WhereMade InDirectRange (direct_decoded m es s v bits length o)
    decoded_range bits length None f e = tt
    decoded_range bits length (Some ins) f e =
        unless InDirectRange Before (first_broken (direct_instruction_tests ins)) s.chained.bodies (direct_made m es s v bits length ins)
        (λ none. made_range bits length ins f e (passed (is_csr ins) CsrTouched _ none).0)

    fetched_range : (f : Fetched) → fetched s.chained.memory s.chained.pc ≡ f → WhereMade InDirectRange (direct_fetched m es s v f)
    fetched_range (Missing at) e = tt
    fetched_range (Bits bits length) e = decoded_range bits length (decoded bits length) e refl

    pub direct_range : WhereMade InDirectRange (direct_body m es s v)
    unfolding direct_body
    direct_range =
        unless InDirectRange Before (first_broken (first_tests s.chained.dead s.chained.pc)) s.chained.bodies
        (unless_broken Before (first_broken (second_tests (is_long_at s.chained.memory s.chained.pc) s.chained.dead s.chained.pc)) s.chained.bodies (direct_fetched m es s v (fetched s.chained.memory s.chained.pc)))
        (λ none. unless InDirectRange Before (first_broken (second_tests (is_long_at s.chained.memory s.chained.pc) s.chained.dead s.chained.pc)) s.chained.bodies (direct_fetched m es s v (fetched s.chained.memory s.chained.pc))
        (λ also. fetched_range (fetched s.chained.memory s.chained.pc) refl))

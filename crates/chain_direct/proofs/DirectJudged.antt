-- The tests of a direct service's instruction, made on the board, are the machine's; and what passes them does the same in both.
use Rattle.std.proofs.Common.{◌≡◌, ℕ, ◌+◌, ◌⊎◌, inl, inr, ⊎_elim, Bool, true, false, List, Option, Some, None, Result, Ok, Err, refl, sym, ap, ap₂, ◌∙◌, subst}
use Rattle.std.proofs.lemmas.Bool.{true≢false}
use Rattle.device_model.specs.Meanings.{Meanings}
use Rattle.csr_file.specs.CsrState.{CsrState}
use Rattle.rv_encoding.specs.declared.instruction.Ins.{Ins}
use Rattle.rv_encoding.specs.declared.instruction.Ins.TheVariants.{Lui, Auipc, Jal, Jalr, Branch, Load, Store, Imm, Reg, Fence, Ecall, Ebreak, Mret, Wfi, Csr}
use Rattle.hart_exec.specs.Effect.{effect}
use Rattle.hart_exec.specs.declared.effect.Effect.{Effect}
use Rattle.hart_memory.specs.Fetch.{fetched}
use Rattle.hart_memory.specs.declared.fetched.Fetched.{Fetched}
use Rattle.hart_memory.specs.declared.fetched.Fetched.TheVariants.{Bits, Missing}
use Rattle.clic_trap.specs.System.{system}
use Rattle.clic_trap.specs.Return.{returned}
use Rattle.hart_board.specs.State.{State}
use Rattle.hart_board.specs.Attempt.{performed, with_encoding, attempted, attempt_of, attempt}
use Rattle.rvc_encoding.specs.Decoding.{decoded}
use Rattle.hart_board.specs.declared.event.Event.{Event}
use Rattle.hart_board.specs.declared.trap.Trap.{Trap}
use Rattle.rvc_encoding.specs.declared.encoding.Encoding.{Encoding}
use Rattle.chain_moves.specs.Slot.{in_slot}
use Rattle.chain_moves.specs.Servicing.{marks, innermost_level}
use Rattle.chain_moves.specs.Bytes.{some_byte, is_hidden}
use Rattle.chain_moves.specs.Convention.{is_permitted}
use Rattle.chain_moves.specs.Tests.{first_broken, first_tests, second_tests}
use Rattle.chain_moves.specs.Enter.{takes_interrupts}
use Rattle.chain_moves.specs.Machine.{Before, Moved, Makes, unless_broken}
use Rattle.chain_moves.specs.Body.{hart, with_hart, is_long_at}
use Rattle.chain_moves.specs.Beside.{Rest, board_of}
use Rattle.chain_moves.specs.Related.{Stands}
use Rattle.chain_moves.specs.Watched.{Watched, watched_of}
use Rattle.chain_moves.specs.Judge.{judge_effect}
use Rattle.chain_moves.specs.declared.broken.Broken.{Broken}
use Rattle.chain_moves.specs.declared.broken.Broken.TheVariants.{CsrTouched, EnteredDispatch}
use Rattle.chain_moves.specs.declared.dispatcher.Dispatcher.{Dispatcher}
use Rattle.chain_moves.specs.declared.moves.Move.TheVariants.{Body}
use Rattle.chain_moves.proofs.Nested.{passed}
use Rattle.chain_moves.proofs.Lifted.{handlers_lifted}
use Rattle.chain_moves.proofs.Judged.{IsRaised, IsMade, Means, carried, performed_means, half_passes, same_fetch, same_length}
use Rattle.chain_direct.specs.Kind.{Kind, Plain}
use Rattle.chain_direct.specs.Directed.{Direct, Directed}
use Rattle.chain_direct.specs.DirectBody.{is_csr, direct_instruction_tests, with_its_events, direct_performed, direct_ended, direct_made, direct_decoded, direct_fetched, direct_body}
use Rattle.chain_direct.specs.DirectBeside.{direct_csrs, direct_board_of, rest_returned}
use Rattle.chain_direct.specs.DirectJudge.{direct_or, judge_direct_made, judge_direct_instruction, judge_direct_fetched, judge_direct_body}
use Rattle.chain_direct.specs.declared.direct_verdict.DirectVerdict.{DirectVerdict}
use Rattle.chain_direct.specs.declared.direct_verdict.DirectVerdict.TheVariants.{Ends, Goes}

-- ---- what is on no control register is MRET, or goes as a handler's instruction does
module _ (m : Meanings) (es : List Event) (s : Directed) (v : Direct) (b : State) (w : Watched) (bits length : ℕ) where
  pub record Other (ins : Ins) : Type 0 where
    pub permitted : is_permitted false ins ≡ true
    pub made : direct_made m es s v bits length ins ≡ direct_performed m es s (effect ins length s.chained.registers s.chained.pc) (performed m (hart s.chained) ins bits length)
    pub judged : judge_direct_made b w length ins ≡ Goes (judge_effect w (effect ins length b.registers b.pc))

  pub one_of_two : (ins : Ins) → is_csr ins ≡ false → (ins ≡ Mret) ⊎ Other ins
  one_of_two (Lui rd imm) e = inr (record { permitted = refl; made = refl; judged = refl })
  one_of_two (Auipc rd imm) e = inr (record { permitted = refl; made = refl; judged = refl })
  one_of_two (Jal rd offset) e = inr (record { permitted = refl; made = refl; judged = refl })
  one_of_two (Jalr rd rs1 imm) e = inr (record { permitted = refl; made = refl; judged = refl })
  one_of_two (Branch op rs1 rs2 offset) e = inr (record { permitted = refl; made = refl; judged = refl })
  one_of_two (Load op rd rs1 imm) e = inr (record { permitted = refl; made = refl; judged = refl })
  one_of_two (Store op rs1 rs2 imm) e = inr (record { permitted = refl; made = refl; judged = refl })
  one_of_two (Imm op rd rs1 imm) e = inr (record { permitted = refl; made = refl; judged = refl })
  one_of_two (Reg op rd rs1 rs2) e = inr (record { permitted = refl; made = refl; judged = refl })
  one_of_two (Fence pred succ) e = inr (record { permitted = refl; made = refl; judged = refl })
  one_of_two Ecall e = inr (record { permitted = refl; made = refl; judged = refl })
  one_of_two Ebreak e = inr (record { permitted = refl; made = refl; judged = refl })
  one_of_two Wfi e = inr (record { permitted = refl; made = refl; judged = refl })
  one_of_two Mret e = inl refl
  one_of_two (Csr op rd source csr) e = absurd (true≢false e)

-- the state where the instruction left the hart so, with the events of the count
abbrev pub gone_on : Meanings → List Event → Directed → State → List Bool → Directed
gone_on m es s c dead = record s { chained = with_its_events m es (with_hart s.chained c dead) }

-- and where MRET ended the service
abbrev pub returned_to : Meanings → List Event → Directed → Direct → Directed
returned_to m es s v = record s { chained = with_its_events m es (record s.chained { pc = v.pc; bodies = s.chained.bodies + 1 }); direct = None }

module _ (m : Meanings) (es : List Event) (d : Dispatcher) (s : Directed) (v : Direct) (x : Rest) (h : Stands d s.chained x) (was : s.chained.was ≡ true) (on : takes_interrupts (marks s.chained.live) s.chained.on ≡ true) where
  abbrev b : State
  b = direct_board_of s.chained v x

  abbrev w : Watched
  w = watched_of s.chained

  abbrev fields : CsrState → CsrState
  fields c = direct_csrs (marks s.chained.live) v x c

  abbrev settled : State → List Bool → Moved Kind Directed
  settled c dead = Makes (Plain Body) (gone_on m es s c dead)

  abbrev pub DirectRaised : Result (Encoding × State) Trap → Moved Kind Directed → Type 0
  DirectRaised ob moved = IsRaised Kind Directed s.chained ob moved

  abbrev pub DirectMade : Result (Encoding × State) Trap → Moved Kind Directed → List Bool → Type 0
  DirectMade ob moved dead = IsMade Kind Directed s.chained x false fields settled ob moved dead

  -- MRET is carried out on the board, and ends the service in the machine
  pub record IsReturn (ob : Result (Encoding × State) Trap) (moved : Moved Kind Directed) : Type 0 where
    pub encoding : Encoding
    pub board : ob ≡ Ok (encoding, board_of (record s.chained { pc = v.pc }) (rest_returned s.chained v x))
    pub ends : moved ≡ direct_ended m es s v

  abbrev pub DirectMeans : Result (Encoding × State) Trap → Moved Kind Directed → DirectVerdict → Type 0
  DirectMeans ob moved Ends = IsReturn ob moved
  DirectMeans ob moved (Goes verdict) = Means Kind Directed s.chained x false fields settled ob moved verdict

  -- ---- the instruction
  performed_same : (e : Effect) (r : Result State Trap) → carried Kind Directed s.chained settled e r ≡ direct_performed m es s e r
  performed_same e (Err trap) = refl
  performed_same e (Ok new) = refl

  back : record b { csrs = returned b.csrs; pc = b.csrs.mepc } ≡ board_of (record s.chained { pc = v.pc }) (rest_returned s.chained v x)
  unfolding returned
  back = ap₂ (λ e p. record b { csrs = record b.csrs { mie = e; mpie = p; mil = innermost_level (marks s.chained.live) }; pc = v.pc }) (was ∙ sym on) (sym was)

  mret_back : (bits length : ℕ) → performed m b Mret bits length ≡ Ok (record b { csrs = returned b.csrs; pc = b.csrs.mepc })
  unfolding performed effect system
  mret_back bits length = refl

  returns : (bits length : ℕ) → DirectMeans (attempted m b bits length (Some Mret)) (direct_ended m es s v) Ends
  returns bits length = record {
    encoding = record { bits = bits; length = length };
    board = ap (with_encoding (record { bits = bits; length = length })) (mret_back bits length ∙ ap (λ c. Ok c) back);
    ends = refl;
  }

  other_means : (bits length : ℕ) (ins : Ins) → Other m es s v b w bits length ins → DirectMeans (attempted m b bits length (Some ins)) (direct_made m es s v bits length ins) (judge_direct_made b w length ins)
  other_means bits length ins o =
      let does = effect ins length s.chained.registers s.chained.pc in
      let meant = performed_means m d Kind Directed s.chained x h false fields (handlers_lifted fields) settled bits length ins o.permitted in
      subst (λ verdict. DirectMeans (attempted m b bits length (Some ins)) (direct_made m es s v bits length ins) verdict) (sym o.judged)
      (subst (λ moved. DirectMeans (attempted m b bits length (Some ins)) moved (Goes (judge_effect w does))) (performed_same does (performed m (hart s.chained) ins bits length) ∙ sym o.made) meant)

  made_means : (bits length : ℕ) (ins : Ins) → is_csr ins ≡ false → DirectMeans (attempted m b bits length (Some ins)) (direct_made m es s v bits length ins) (judge_direct_made b w length ins)
  made_means bits length ins e =
      ⊎_elim
      (λ (q : ins ≡ Mret). subst (λ i. DirectMeans (attempted m b bits length (Some i)) (direct_made m es s v bits length i) (judge_direct_made b w length i)) (sym q) (returns bits length))
      (λ (q : Other m es s v b w bits length ins). other_means bits length ins q)
      (one_of_two m es s v b w bits length ins e)

  spelled_means : (bits length : ℕ) (ins : Ins) (o : Option Broken) → first_broken (direct_instruction_tests ins) ≡ o
      → DirectMeans (attempted m b bits length (Some ins)) (unless_broken Before o s.chained.bodies (direct_made m es s v bits length ins)) (direct_or o (judge_direct_made b w length ins))
  spelled_means bits length ins (Some kind) e = refl
  spelled_means bits length ins None e = made_means bits length ins (passed (is_csr ins) CsrTouched _ e).0

  instruction_means : (bits length : ℕ) (o : Option Ins) → DirectMeans (attempted m b bits length o) (direct_decoded m es s v bits length o) (judge_direct_instruction b w length o)
  instruction_means bits length None = refl
  instruction_means bits length (Some ins) = spelled_means bits length ins (first_broken (direct_instruction_tests ins)) refl

  -- ---- the fetch
  fetched_means : (f : Fetched) → DirectMeans (attempt_of m b f) (direct_fetched m es s v f) (judge_direct_fetched b w f)
  fetched_means (Missing at) = refl
  fetched_means (Bits bits length) = instruction_means bits length (decoded bits length)

  second_means : (o : Option Broken) → first_broken (second_tests (is_long_at s.chained.memory s.chained.pc) s.chained.dead s.chained.pc) ≡ o → some_byte (is_hidden s.chained.dead) s.chained.pc 2 ≡ false
      → DirectMeans (attempt m b) (unless_broken Before o s.chained.bodies (direct_fetched m es s v (fetched s.chained.memory s.chained.pc))) (direct_or o (judge_direct_fetched b w (fetched b.memory s.chained.pc)))
  unfolding attempt
  second_means (Some k) e q = refl
  second_means None e q = subst (λ f. DirectMeans (attempt_of m b f) (direct_fetched m es s v (fetched s.chained.memory s.chained.pc)) (judge_direct_fetched b w f)) (sym (same_fetch d s.chained x h q e)) (fetched_means (fetched s.chained.memory s.chained.pc))

  first_means : (o : Option Broken) → first_broken (first_tests s.chained.dead s.chained.pc) ≡ o
      → DirectMeans (attempt m b) (unless_broken Before o s.chained.bodies (unless_broken Before (first_broken (second_tests (is_long_at s.chained.memory s.chained.pc) s.chained.dead s.chained.pc)) s.chained.bodies (direct_fetched m es s v (fetched s.chained.memory s.chained.pc))))
      (direct_or o (direct_or (first_broken (second_tests (is_long_at b.memory s.chained.pc) s.chained.dead s.chained.pc)) (judge_direct_fetched b w (fetched b.memory s.chained.pc))))
  first_means (Some k) e = refl
  first_means None e =
      let q = half_passes d s.chained x h s.chained.pc (passed (in_slot s.chained.pc) EnteredDispatch _ e).1 in
      subst (λ long. DirectMeans (attempt m b) (unless_broken Before (first_broken (second_tests (is_long_at s.chained.memory s.chained.pc) s.chained.dead s.chained.pc)) s.chained.bodies (direct_fetched m es s v (fetched s.chained.memory s.chained.pc))) (direct_or (first_broken (second_tests long s.chained.dead s.chained.pc)) (judge_direct_fetched b w (fetched b.memory s.chained.pc)))) (sym (same_length d s.chained x h q))
      (second_means (first_broken (second_tests (is_long_at s.chained.memory s.chained.pc) s.chained.dead s.chained.pc)) refl q)

  -- the instruction is refused, or raises, or is carried out, or ends the service, on the board as in the machine
  pub direct_means : DirectMeans (attempt m b) (direct_body m es s v) (judge_direct_body b w)
  unfolding direct_body judge_direct_body
  direct_means = first_means (first_broken (first_tests s.chained.dead s.chained.pc)) refl

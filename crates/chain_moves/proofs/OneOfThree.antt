-- Each move that is made is one of the three, and of one alone.
use Rattle.std.proofs.Common.{◌≡◌, ◌≢◌, ℕ, ◌⊎◌, inl, inr, Bool, true, false, List, [], ◌∷◌, length, Option, Some, None, refl, sym, ap, ap₂, ◌∙◌, subst, arith, ◌+◌, Result, Ok, Err}
use Rattle.std.specs.Prelude.{◌==◌}
use Rattle.std.proofs.lemmas.Bool.{eqb-true, eqb-false, true≢false}
use Rattle.device_model.specs.Meanings.{Meanings}
use Rattle.clic_select.specs.Top.{top}
use Rattle.clic_select.specs.declared.choice.Choice.{Choice}
use Rattle.hart_board.specs.declared.event.Event.{Event}
use Rattle.chain_moves.specs.Slot.{back}
use Rattle.chain_moves.specs.Servicing.{Live, Servicing, marks}
use Rattle.chain_moves.specs.Tests.{first_broken, enter_tests, first_tests, second_tests, instruction_tests, access_tests, return_tests}
use Rattle.chain_moves.specs.Machine.{When, Before, After, Moved, Makes, Breaks, Ends, unless_broken}
use Rattle.chain_moves.specs.Enter.{takes_interrupts, is_enter_due, new_frame, table_address, entered}
use Rattle.chain_moves.specs.Body.{body, hart, with_hart, dead_after, is_long_at, retired, performed_by, decoded_by, fetched_by}
use Rattle.chain_moves.specs.Moves.{move, move_by, move_unless_halted, leave_or_body, halted_with}
use Rattle.std.proofs.lemmas.Bool.{eq-eqb, ne_eqb}
use Rattle.std.proofs.Math.Bool.{and-false}
use Rattle.rv_encoding.specs.declared.instruction.Ins.{Ins}
use Rattle.hart_exec.specs.Effect.{effect}
use Rattle.hart_exec.specs.declared.effect.Effect.{Effect}
use Rattle.hart_memory.specs.Fetch.{fetched}
use Rattle.hart_memory.specs.declared.fetched.Fetched.{Fetched}
use Rattle.hart_memory.specs.declared.fetched.Fetched.TheVariants.{Bits, Missing}
use Rattle.hart_board.specs.State.{State}
use Rattle.hart_board.specs.Attempt.{performed}
use Rattle.rvc_encoding.specs.Decoding.{decoded}
use Rattle.hart_board.specs.Event.{with_events}
use Rattle.hart_board.specs.declared.trap.Trap.{Trap}
use Rattle.chain_moves.specs.Kinds.{BodyLeaves, IsMoveBy, IsMove}
use Rattle.chain_moves.specs.declared.broken.Broken.{Broken}
use Rattle.hart_board.proofs.Keeping.{Of, performed_holds}
use Rattle.chain_moves.specs.declared.moves.Move.{Move}
use Rattle.chain_moves.specs.declared.moves.Move.TheVariants.{Enter, Leave, Body}

-- what is said of a move that is made
abbrev pub WhereMade : {K S : Type 0} → (K → S → Type 0) → Moved K S → Type 0
WhereMade P (Makes kind t) = P kind t
WhereMade P (Breaks when kind bodies) = Unit {0}
WhereMade P Ends = Unit {0}

pub unless : {K S : Type 0} → (P : K → S → Type 0) (when : When) (o : Option Broken) (n : ℕ) (moved : Moved K S) → (o ≡ None → WhereMade P moved) → WhereMade P (unless_broken when o n moved)
unless P when None n moved h = h refl
unless P when (Some kind) n moved h = tt

pub at_made : {K S : Type 0} → (P : K → S → Type 0) (moved : Moved K S) → WhereMade P moved → (kind : K) (t : S) → moved ≡ Makes kind t → P kind t
at_made P moved h kind t e = subst (WhereMade P) e h

module _ (m : Meanings) (es : List Event) where
  -- ---- a body leaves services alone
  abbrev pub IsBody : Servicing → Move → Servicing → Type 0
  IsBody s kind t = (kind ≡ Body) × BodyLeaves s t

  abbrev HasRom : List ℕ → State → Type 0
  HasRom rom t = t.memory.rom ≡ rom

  pub rom_stays : (s : Servicing) (ins : Ins) (bits length : ℕ) → Of (HasRom s.memory.rom) (performed m (hart s) ins bits length)
  rom_stays s ins bits length = performed_holds (HasRom s.memory.rom) m (hart s) ins bits length (record {
    goes = λ rd value target e. refl;
    loads = λ rd at width signed value e l. refl;
    loads_outside = λ rd at width signed found e l. refl;
    stores = λ at width value k e p. refl;
    stores_outside = λ at width value outside e l. refl;
    goes_on = λ e a. refl;
    jumps = λ target e a. refl;
  })

  performed_leaves : (s : Servicing) (e : Effect) (r : Result State Trap) → Of (HasRom s.memory.rom) r → WhereMade (IsBody s) (performed_by m es s e r)
  performed_leaves s e (Err trap) h = tt
  performed_leaves s e (Ok new) h =
      let t = with_hart s new (dead_after s.dead e) in
      unless (IsBody s) Before (first_broken (access_tests (marks s.live) s.dead e)) s.bodies (retired m es t)
      (λ none. unless (IsBody s) After (first_broken (return_tests (marks s.live) new.pc new.registers)) (s.bodies + 1) (Makes Body (record t { outside = (with_events m t.bodies es (hart t)).outside }))
      (λ kept. (refl, record { rom = h; live = refl; services = refl; bodies = refl })))

  decoded_leaves : (s : Servicing) (bits length : ℕ) (o : Option Ins) → WhereMade (IsBody s) (decoded_by m es s bits length o)
  decoded_leaves s bits length None = tt
  decoded_leaves s bits length (Some ins) =
      unless (IsBody s) Before (first_broken (instruction_tests (marks s.live) ins)) s.bodies (performed_by m es s (effect ins length s.registers s.pc) (performed m (hart s) ins bits length))
      (λ none. performed_leaves s (effect ins length s.registers s.pc) (performed m (hart s) ins bits length) (rom_stays s ins bits length))

  fetched_leaves : (s : Servicing) (f : Fetched) → WhereMade (IsBody s) (fetched_by m es s f)
  fetched_leaves s (Missing at) = tt
  fetched_leaves s (Bits bits length) = decoded_leaves s bits length (decoded bits length)

  pub body_leaves : (s : Servicing) → WhereMade (IsBody s) (body m es s)
  unfolding body
  body_leaves s =
      unless (IsBody s) Before (first_broken (first_tests s.dead s.pc)) s.bodies
      (unless_broken Before (first_broken (second_tests (is_long_at s.memory s.pc) s.dead s.pc)) s.bodies (fetched_by m es s (fetched s.memory s.pc)))
      (λ none. unless (IsBody s) Before (first_broken (second_tests (is_long_at s.memory s.pc) s.dead s.pc)) s.bodies (fetched_by m es s (fetched s.memory s.pc))
      (λ also. fetched_leaves s (fetched s.memory s.pc)))

  -- ---- each move that is made is one of the three
  no_top : (s : Servicing) → is_enter_due s None ≡ false
  unfolding is_enter_due
  no_top s = and-false (takes_interrupts (marks s.live) s.on)

  as_body : (s : Servicing) (P : Move → Servicing → Type 0) → ((t : Servicing) → body m es s ≡ Makes Body t → P Body t) → WhereMade P (body m es s)
  as_body s P h = told (body m es s) refl
    where
      told : (moved : Moved Move Servicing) → body m es s ≡ moved → WhereMade P moved
      told (Makes kind t) e =
          let is : (kind ≡ Body) × BodyLeaves s t = at_made (IsBody s) (body m es s) (body_leaves s) kind t e in
          subst (λ k. P k t) (sym is.0) (h t (e ∙ ap (λ k. Makes k t) is.0))
      told (Breaks when kind n) e = tt
      told Ends e = tt

  without_enter : (s : Servicing) (live : List Live) (at_back : Bool) → s.live ≡ live → (s.pc == back) ≡ at_back → is_enter_due s (top s.outside.clic) ≡ false → WhereMade (IsMoveBy m es s) (leave_or_body m es s live at_back)
  without_enter s (v ∷ vs) true e b quiet = record { no_enter = quiet; at_back = eqb-true s.pc back b; innermost = v; others = vs; is_live = e; made = refl }
  without_enter s (v ∷ vs) false e b quiet = as_body s (IsMoveBy m es s) (λ t made. record { no_enter = quiet; no_leave = inl (eqb-false s.pc back b); made = made })
  without_enter s [] at_back e b quiet = as_body s (IsMoveBy m es s) (λ t made. record { no_enter = quiet; no_leave = inr e; made = made })

  by_top : (s : Servicing) (choice : Option Choice) (is_due : Bool) → top s.outside.clic ≡ choice → is_enter_due s choice ≡ is_due → WhereMade (IsMoveBy m es s) (move_by m es s choice is_due)
  by_top s (Some t) true e due =
      unless (IsMoveBy m es s) Before (first_broken (enter_tests (marks s.live) s.dead t.shv s.vector (new_frame s) (table_address s.table t.id))) s.bodies (Makes Enter (entered s t))
      (λ none. record { choice = t; is_top = e; is_due = ap (is_enter_due s) e ∙ due; untested = none; made = refl })
  by_top s None true e due = absurd (true≢false (sym due ∙ no_top s))
  by_top s (Some t) false e due = without_enter s s.live (s.pc == back) refl refl (ap (is_enter_due s) e ∙ due)
  by_top s None false e due = without_enter s s.live (s.pc == back) refl refl (ap (is_enter_due s) e ∙ due)

  unless_halted : (s : Servicing) (o : Option ℕ) → m.halted s.outside.device ≡ o → WhereMade (IsMove m es s) (move_unless_halted m es s o)
  unless_halted s (Some code) e = after_halt s.live
    where
      after_halt : (live : List Live) → WhereMade (IsMove m es s) (halted_with live s.bodies)
      after_halt [] = tt
      after_halt (v ∷ vs) = tt
  unless_halted s None e = with_running (move_by m es s (top s.outside.clic) (is_enter_due s (top s.outside.clic))) (by_top s (top s.outside.clic) (is_enter_due s (top s.outside.clic)) refl refl)
    where
      with_running : (moved : Moved Move Servicing) → WhereMade (IsMoveBy m es s) moved → WhereMade (IsMove m es s) moved
      with_running (Makes kind t) h = (e, h)
      with_running (Breaks when kind n) h = tt
      with_running Ends h = tt

  pub move_is : (s : Servicing) → WhereMade (IsMove m es s) (move m es s)
  unfolding move
  move_is s = unless_halted s (m.halted s.outside.device) refl

  pub is_one : (s : Servicing) (kind : Move) (t : Servicing) → move m es s ≡ Makes kind t → IsMove m es s kind t
  is_one s kind t e = at_made (IsMove m es s) (move m es s) (move_is s) kind t e

  -- ---- and what is a move is made
  unless_none : (when : When) (o : Option Broken) (n : ℕ) (moved : Moved Move Servicing) → o ≡ None → unless_broken when o n moved ≡ moved
  unless_none when o n moved e = ap (λ p. unless_broken when p n moved) e

  not_entering : (s : Servicing) (choice : Option Choice) (is_due : Bool) → is_due ≡ false → move_by m es s choice is_due ≡ leave_or_body m es s s.live (s.pc == back)
  not_entering s (Some t) true e = absurd (true≢false e)
  not_entering s None true e = refl
  not_entering s (Some t) false e = refl
  not_entering s None false e = refl

  not_leaving : (s : Servicing) (live : List Live) (at_back : Bool) → (at_back ≡ false) ⊎ (live ≡ []) → leave_or_body m es s live at_back ≡ body m es s
  not_leaving s [] at_back h = refl
  not_leaving s (v ∷ vs) false h = refl
  not_leaving s (v ∷ vs) true (inl e) = absurd (true≢false e)
  not_leaving s (v ∷ vs) true (inr e) = absurd (omega (arith, ap length e))

  is_elsewhere : (s : Servicing) → (s.pc ≢ back) ⊎ (s.live ≡ []) → ((s.pc == back) ≡ false) ⊎ (s.live ≡ [])
  is_elsewhere s (inl n) = inl (ne_eqb s.pc back n)
  is_elsewhere s (inr e) = inr e

  made_by : (s : Servicing) (kind : Move) (t : Servicing) → IsMoveBy m es s kind t → move_by m es s (top s.outside.clic) (is_enter_due s (top s.outside.clic)) ≡ Makes kind t
  made_by s Enter t h =
      ap₂ (move_by m es s) h.is_top h.is_due
      ∙ (unless_none Before (first_broken (enter_tests (marks s.live) s.dead h.choice.shv s.vector (new_frame s) (table_address s.table h.choice.id))) s.bodies (Makes Enter (entered s h.choice)) h.untested
      ∙ ap (Makes Enter) (sym h.made))
  made_by s Leave t h =
      not_entering s (top s.outside.clic) (is_enter_due s (top s.outside.clic)) h.no_enter
      ∙ (ap₂ (leave_or_body m es s) h.is_live (eq-eqb s.pc back h.at_back)
      ∙ ap (Makes Leave) (sym h.made))
  made_by s Body t h =
      not_entering s (top s.outside.clic) (is_enter_due s (top s.outside.clic)) h.no_enter
      ∙ (not_leaving s s.live (s.pc == back) (is_elsewhere s h.no_leave)
      ∙ h.made)

  pub one_is : (s : Servicing) (kind : Move) (t : Servicing) → IsMove m es s kind t → move m es s ≡ Makes kind t
  unfolding move
  one_is s kind t h = ap (move_unless_halted m es s) h.0 ∙ made_by s kind t h.1

  -- two moves from one state are the same
  made_kind : Moved Move Servicing → Move
  made_kind (Makes kind t) = kind
  made_kind (Breaks when kind n) = Body
  made_kind Ends = Body

  pub alone : (s : Servicing) (one other : Move) (t u : Servicing) → IsMove m es s one t → IsMove m es s other u → one ≡ other
  unfolding made_kind
  alone s one other t u h k = ap made_kind (sym (one_is s one t h) ∙ one_is s other u k)

  -- ---- only a halt ends a run
  abbrev GoesOn : Moved Move Servicing → Type 0
  GoesOn (Makes kind t) = Unit {0}
  GoesOn (Breaks when kind n) = Unit {0}
  GoesOn Ends = ⊥

  unless_goes : (when : When) (o : Option Broken) (n : ℕ) (moved : Moved Move Servicing) → GoesOn moved → GoesOn (unless_broken when o n moved)
  unless_goes when None n moved h = h
  unless_goes when (Some kind) n moved h = tt

  performed_goes : (s : Servicing) (e : Effect) (r : Result State Trap) → GoesOn (performed_by m es s e r)
  performed_goes s e (Err trap) = tt
  performed_goes s e (Ok new) =
      let t = with_hart s new (dead_after s.dead e) in
      unless_goes Before (first_broken (access_tests (marks s.live) s.dead e)) s.bodies (retired m es t)
      (unless_goes After (first_broken (return_tests (marks s.live) new.pc new.registers)) (s.bodies + 1) (Makes Body (record t { outside = (with_events m t.bodies es (hart t)).outside })) tt)

  decoded_goes : (s : Servicing) (bits length : ℕ) (o : Option Ins) → GoesOn (decoded_by m es s bits length o)
  decoded_goes s bits length None = tt
  decoded_goes s bits length (Some ins) =
      unless_goes Before (first_broken (instruction_tests (marks s.live) ins)) s.bodies (performed_by m es s (effect ins length s.registers s.pc) (performed m (hart s) ins bits length))
      (performed_goes s (effect ins length s.registers s.pc) (performed m (hart s) ins bits length))

  fetched_goes : (s : Servicing) (f : Fetched) → GoesOn (fetched_by m es s f)
  fetched_goes s (Missing at) = tt
  fetched_goes s (Bits bits length) = decoded_goes s bits length (decoded bits length)

  body_goes : (s : Servicing) → GoesOn (body m es s)
  unfolding body
  body_goes s =
      unless_goes Before (first_broken (first_tests s.dead s.pc)) s.bodies
      (unless_broken Before (first_broken (second_tests (is_long_at s.memory s.pc) s.dead s.pc)) s.bodies (fetched_by m es s (fetched s.memory s.pc)))
      (unless_goes Before (first_broken (second_tests (is_long_at s.memory s.pc) s.dead s.pc)) s.bodies (fetched_by m es s (fetched s.memory s.pc)) (fetched_goes s (fetched s.memory s.pc)))

  without_goes : (s : Servicing) (live : List Live) (at_back : Bool) → GoesOn (leave_or_body m es s live at_back)
  without_goes s (v ∷ vs) true = tt
  without_goes s (v ∷ vs) false = body_goes s
  without_goes s [] at_back = body_goes s

  by_goes : (s : Servicing) (choice : Option Choice) (is_due : Bool) → GoesOn (move_by m es s choice is_due)
  by_goes s (Some t) true = unless_goes Before (first_broken (enter_tests (marks s.live) s.dead t.shv s.vector (new_frame s) (table_address s.table t.id))) s.bodies (Makes Enter (entered s t)) tt
  by_goes s None true = without_goes s s.live (s.pc == back)
  by_goes s (Some t) false = without_goes s s.live (s.pc == back)
  by_goes s None false = without_goes s s.live (s.pc == back)

  pub running : (s : Servicing) → m.halted s.outside.device ≡ None → move m es s ≡ Ends → ⊥
  unfolding move
  running s h e = subst GoesOn (sym (ap (move_unless_halted m es s) h) ∙ e) (by_goes s (top s.outside.clic) (is_enter_due s (top s.outside.clic)))

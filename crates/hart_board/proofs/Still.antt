-- A step by what the instruction at pc comes to, and the steps that change nothing.
use Rattle.std.proofs.Common.{◌≡◌, ℕ, Bool, true, false, Option, Some, None, Result, Ok, Err, refl, ap, ◌∙◌}
use Rattle.device_model.specs.Meanings.{Meanings}
use Rattle.hart_memory.specs.Access.{loaded}
use Rattle.hart_memory.specs.Memory.{Memory}
use Rattle.csr_file.specs.CsrState.{CsrState}
use Rattle.clic_regs.specs.ClicState.{ClicState}
use Rattle.clic_select.specs.Top.{top}
use Rattle.clic_select.specs.declared.choice.Choice.{Choice}
use Rattle.clic_trap.specs.Due.{due}
use Rattle.clic_trap.specs.Entry.{Entry, entered, entered_by, entered_through, vector_address}
use Rattle.clic_trap.specs.declared.entered.Entered.{Entered}
use Rattle.clic_trap.specs.declared.entered.Entered.TheVariants.{At, VectorFault as Faults}
use Rattle.hart_board.specs.State.{State}
use Rattle.hart_board.specs.Attempt.{attempt}
use Rattle.hart_board.specs.Step.{Turn, step, tried, turn_or_halted, turn_by, settled, entered_at, kept_if_raised}
use Rattle.hart_board.specs.Kinds.{FindsNoVector}
use Rattle.hart_board.specs.declared.trap.Trap.{Trap}
use Rattle.rvc_encoding.specs.declared.encoding.Encoding.{Encoding}
use Rattle.hart_report.specs.declared.stepped.Stepped.{Stepped}
use Rattle.hart_report.specs.declared.stepped.Stepped.TheVariants.{Retired, Interrupted, Raised, Halted, VectorFault}
use Rattle.hart_board.proofs.OneKind.{by_nothing, not_halted}

-- ---- nothing is due

pub step_carries_out : (m : Meanings) (s : State) → m.halted s.outside.device ≡ None → due s.csrs (top s.outside.clic) ≡ false → step m s ≡ settled s (attempt m s)
step_carries_out m s none nothing = not_halted m s none ∙ (ap (turn_by m s (top s.outside.clic)) nothing ∙ by_nothing m s (top s.outside.clic))

tried_settles : (m : Meanings) (s : State) (t : Turn) → step m s ≡ t → tried m s ≡ kept_if_raised s t t.told
unfolding tried
tried_settles m s t e = ap (λ (u : Turn). kept_if_raised s u u.told) e

pub tried_retires : (m : Meanings) (s : State) (made : Encoding × State) → m.halted s.outside.device ≡ None → due s.csrs (top s.outside.clic) ≡ false → attempt m s ≡ Ok made → tried m s ≡ record { told = Retired s.pc made.0.bits made.0.length; state = made.1 }
tried_retires m s made none nothing e = tried_settles m s _ (step_carries_out m s none nothing ∙ ap (settled s) e)

pub tried_raises : (m : Meanings) (s : State) (trap : Trap) → m.halted s.outside.device ≡ None → due s.csrs (top s.outside.clic) ≡ false → attempt m s ≡ Err trap → tried m s ≡ record { told = Raised s.pc trap.code; state = s }
tried_raises m s trap none nothing e = tried_settles m s _ (step_carries_out m s none nothing ∙ ap (settled s) e)

-- ---- a step that is tried is the step, but where it would be an exception

by_told : (s : State) (turn : Turn) (told : Stepped) → turn.told ≡ told → ((pc code : ℕ) → told ≡ Raised pc code → ⊥) → kept_if_raised s turn told ≡ turn
by_told s turn (Raised pc code) e other = absurd (other pc code refl)
by_told s turn (Retired pc bits length) e other = refl
by_told s turn (Interrupted pc id) e other = refl
by_told s turn (Halted code) e other = refl
by_told s turn (VectorFault id) e other = refl

pub tried_other : (m : Meanings) (s : State) → ((pc code : ℕ) → (step m s).told ≡ Raised pc code → ⊥) → tried m s ≡ step m s
unfolding tried
tried_other m s other = by_told s (step m s) (step m s).told refl other

pub tried_raised : (m : Meanings) (s : State) (pc code : ℕ) → (step m s).told ≡ Raised pc code → tried m s ≡ record { told = Raised pc code; state = s }
unfolding tried
tried_raised m s pc code e = ap (kept_if_raised s (step m s)) e

-- ---- the board has halted

entry_not_halted : (s : State) (id code : ℕ) (entry : Entry) (e : Entered) → (entered_at s id entry e).told ≡ Halted code → ⊥
entry_not_halted s id code entry (At target) h = cc
entry_not_halted s id code entry (Faults input) h = cc

settled_not_halted : (s : State) (code : ℕ) (made : Result (Encoding × State) Trap) → (settled s made).told ≡ Halted code → ⊥
settled_not_halted s code (Ok made) h = cc
settled_not_halted s code (Err trap) h = cc

turn_not_halted : (m : Meanings) (s : State) (code : ℕ) (t : Option Choice) (d : Bool) → (turn_by m s t d).told ≡ Halted code → ⊥
turn_not_halted m s code (Some choice) true h = entry_not_halted s choice.id code (entered s.csrs s.outside.clic s.memory choice s.pc) (entered s.csrs s.outside.clic s.memory choice s.pc).answer h
turn_not_halted m s code None true h = settled_not_halted s code (attempt m s) h
turn_not_halted m s code (Some choice) false h = settled_not_halted s code (attempt m s) h
turn_not_halted m s code None false h = settled_not_halted s code (attempt m s) h

halted_by : (m : Meanings) (s : State) (code : ℕ) (o : Option ℕ) → (turn_or_halted m s o).told ≡ Halted code → o ≡ Some code
halted_by m s code (Some c) h = cc
halted_by m s code None h = absurd (turn_not_halted m s code (top s.outside.clic) (due s.csrs (top s.outside.clic)) h)

pub told_halted : (m : Meanings) (s : State) (code : ℕ) → (step m s).told ≡ Halted code → m.halted s.outside.device ≡ Some code
unfolding step
told_halted m s code h = halted_by m s code (m.halted s.outside.device) h

pub halted_stays : (m : Meanings) (s : State) (code : ℕ) → m.halted s.outside.device ≡ Some code → step m s ≡ record { told = Halted code; state = s }
unfolding step
halted_stays m s code h = ap (turn_or_halted m s) h

-- ---- the table's word isn't in memory

through_faults : (o : Option ℕ) (c : CsrState) (k : ClicState) (t : Choice) (pc id : ℕ) → (entered_through o c k t pc).answer ≡ Faults id → (o ≡ None) × (t.id ≡ id)
through_faults None c k t pc id h = (refl, cc)
through_faults (Some vector) c k t pc id h = absurd cc

entered_faults : (shv : Bool) (c : CsrState) (k : ClicState) (memory : Memory) (t : Choice) (pc id : ℕ) → t.shv ≡ shv → (entered_by shv c k memory t pc).answer ≡ Faults id → (t.shv ≡ true) × (loaded memory (vector_address c t.id) 4 ≡ None) × (t.id ≡ id)
entered_faults false c k memory t pc id s h = absurd cc
entered_faults true c k memory t pc id s h = let both = through_faults (loaded memory (vector_address c t.id) 4) c k t pc id h in (s, both.0, both.1)

faults : (c : CsrState) (k : ClicState) (memory : Memory) (t : Choice) (pc id : ℕ) → (entered c k memory t pc).answer ≡ Faults id → (t.shv ≡ true) × (loaded memory (vector_address c t.id) 4 ≡ None) × (t.id ≡ id)
unfolding entered
faults c k memory t pc id h = entered_faults t.shv c k memory t pc id refl h

does_fault : (c : CsrState) (k : ClicState) (memory : Memory) (t : Choice) (pc : ℕ) → t.shv ≡ true → loaded memory (vector_address c t.id) 4 ≡ None → (entered c k memory t pc).answer ≡ Faults t.id
unfolding entered
does_fault c k memory t pc s l = ap (λ b. (entered_by b c k memory t pc).answer) s ∙ ap (λ o. (entered_through o c k t pc).answer) l

entry_missing : (s : State) (t : Choice) (id : ℕ) (entry : Entry) (e : Entered) → (entered_at s t.id entry e).told ≡ VectorFault id → e ≡ Faults id
entry_missing s t id entry (At target) h = absurd cc
entry_missing s t id entry (Faults input) h = cc

settled_not_missing : (s : State) (id : ℕ) (made : Result (Encoding × State) Trap) → (settled s made).told ≡ VectorFault id → ⊥
settled_not_missing s id (Ok made) h = cc
settled_not_missing s id (Err trap) h = cc

turn_missing : (m : Meanings) (s : State) (id : ℕ) (t : Option Choice) (d : Bool) → top s.outside.clic ≡ t → due s.csrs (top s.outside.clic) ≡ d → (turn_by m s t d).told ≡ VectorFault id → FindsNoVector s id
turn_missing m s id (Some choice) true t d h =
    let f = faults s.csrs s.outside.clic s.memory choice s.pc id (entry_missing s choice id (entered s.csrs s.outside.clic s.memory choice s.pc) (entered s.csrs s.outside.clic s.memory choice s.pc).answer h) in
    record { choice = choice; is_top = t; is_due = d; by_hardware = f.0; not_in_memory = f.1; number = f.2 }
turn_missing m s id None true t d h = absurd (settled_not_missing s id (attempt m s) h)
turn_missing m s id (Some choice) false t d h = absurd (settled_not_missing s id (attempt m s) h)
turn_missing m s id None false t d h = absurd (settled_not_missing s id (attempt m s) h)

missing_by : (m : Meanings) (s : State) (id : ℕ) (o : Option ℕ) → m.halted s.outside.device ≡ o → (turn_or_halted m s o).told ≡ VectorFault id → (m.halted s.outside.device ≡ None) × FindsNoVector s id
missing_by m s id (Some code) o h = absurd cc
missing_by m s id None o h = (o, turn_missing m s id (top s.outside.clic) (due s.csrs (top s.outside.clic)) refl refl h)

pub told_missing : (m : Meanings) (s : State) (id : ℕ) → (step m s).told ≡ VectorFault id → (m.halted s.outside.device ≡ None) × FindsNoVector s id
unfolding step
told_missing m s id h = missing_by m s id (m.halted s.outside.device) refl h

pub missing_stays : (m : Meanings) (s : State) (id : ℕ) → m.halted s.outside.device ≡ None → FindsNoVector s id → step m s ≡ record { told = VectorFault id; state = s }
missing_stays m s id none f =
    let e = entered s.csrs s.outside.clic s.memory f.choice s.pc in
    not_halted m s none
    ∙ ap (turn_by m s (top s.outside.clic)) f.is_due
    ∙ ap (λ t. turn_by m s t true) f.is_top
    ∙ ap (entered_at s f.choice.id e) (does_fault s.csrs s.outside.clic s.memory f.choice s.pc f.by_hardware f.not_in_memory)
    ∙ ap (λ n. record { told = VectorFault n; state = s }) f.number

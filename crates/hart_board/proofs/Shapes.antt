-- The controller's shape never changes.
use Rattle.std.proofs.Common.{◌≡◌, ℕ, Bool, true, false, List, Option, Some, None, refl, ap, ◌∙◌}
use Rattle.device_model.specs.Meanings.{Meanings}
use Rattle.rv_encoding.specs.declared.instruction.Ins.{Ins}
use Rattle.rv_encoding.specs.declared.instruction.Ins.TheVariants.{Ecall, Ebreak, Mret, Wfi, Csr}
use Rattle.rv_encoding.specs.declared.operations.CsrOp.{CsrOp}
use Rattle.csr_file.specs.CsrState.{CsrState}
use Rattle.hart_memory.specs.Access.{loaded}
use Rattle.hart_memory.specs.Memory.{Memory}
use Rattle.clic_regs.specs.ClicState.{ClicState}
use Rattle.clic_regs.specs.Shape.{ClicShape}
use Rattle.clic_regs.proofs.Kept.{claimed-shape}
use Rattle.clic_select.specs.Top.{top}
use Rattle.clic_select.specs.declared.choice.Choice.{Choice}
use Rattle.clic_trap.specs.CsrAccess.{Accessed, operand, accessed}
use Rattle.clic_trap.specs.CsrInstruction.{after_try, csr_done, csr_instruction}
use Rattle.clic_trap.specs.CsrRequest.{request}
use Rattle.clic_trap.specs.Entry.{entered, entered_by, entered_through, vector_address}
use Rattle.clic_trap.specs.NextInterrupt.{next_interrupt, next_by, claiming, found}
use Rattle.clic_trap.specs.System.{system}
use Rattle.clic_trap.specs.declared.claim.Claim.{Claim}
use Rattle.clic_trap.specs.declared.claim.Claim.TheVariants.{Read, Set, Clear}
use Rattle.clic_trap.specs.declared.csr_request.CsrRequest.{CsrRequest}
use Rattle.clic_trap.specs.declared.csr_request.CsrRequest.TheVariants.{Illegal, NextInterrupt, Swap, Plain}
use Rattle.hart_board.specs.State.{State}
use Rattle.hart_board.specs.Region.{region}
use Rattle.hart_board.specs.Step.{Turn, step}
use Rattle.hart_board.specs.Event.{arrived, applied, with_events}
use Rattle.hart_board.specs.declared.what.What.{What}
use Rattle.hart_board.specs.declared.event.Event.{Event}
use Rattle.hart_board.proofs.Keeping.{step_holds}
use Rattle.hart_board.proofs.Outsides.{load_shape, store_shape, applied_shape, arrived_shape, events_shape}

claiming_shape : (c : CsrState) (s : ClicState) (t : Option Choice) → (claiming c s t).clic.shape ≡ s.shape
claiming_shape c s None = refl
claiming_shape c s (Some t) = claimed-shape s t.id

next_shape_by : (form : Claim) (c : CsrState) (s : ClicState) (t : Option Choice) → (next_by form c s t).clic.shape ≡ s.shape
next_shape_by Read c s t = refl
next_shape_by Set c s t = claiming_shape (record c { mie = true }) s t
next_shape_by Clear c s t = claiming_shape (record c { mie = false }) s t

next_shape : (form : Claim) (c : CsrState) (s : ClicState) → (next_interrupt form c s).clic.shape ≡ s.shape
unfolding next_interrupt
next_shape form c s = next_shape_by form c s (found (top s) c)

try_shape : (a : Option Accessed) (rd : ℕ) (r : List ℕ) (c : CsrState) (s : ClicState) → (after_try a rd r c s).clic.shape ≡ s.shape
try_shape None rd r c s = refl
try_shape (Some a) rd r c s = refl

csr_shape : (q : CsrRequest) (op : CsrOp) (rd source csr : ℕ) (r : List ℕ) (c : CsrState) (s : ClicState) → (csr_done q op rd source csr r c s).clic.shape ≡ s.shape
csr_shape Illegal op rd source csr r c s = refl
csr_shape (NextInterrupt form) op rd source csr r c s = next_shape form c s
csr_shape (Swap by_level) op rd source csr r c s = refl
csr_shape (Plain writes) op rd source csr r c s = try_shape (accessed writes op csr (operand op r source) c) rd r c s

pub system_shape : (i : Ins) (r : List ℕ) (c : CsrState) (s : ClicState) → (system i r c s).clic.shape ≡ s.shape
unfolding system csr_instruction
system_shape Ecall r c s = refl
system_shape Ebreak r c s = refl
system_shape Mret r c s = refl
system_shape Wfi r c s = refl
system_shape (Csr op rd source csr) r c s = csr_shape (request op rd source csr) op rd source csr r c s
system_shape _ r c s = refl

through_shape : (vector : Option ℕ) (c : CsrState) (s : ClicState) (t : Choice) (pc : ℕ) → (entered_through vector c s t pc).clic.shape ≡ s.shape
through_shape None c s t pc = refl
through_shape (Some vector) c s t pc = claimed-shape s t.id

entry_shape_by : (shv : Bool) (c : CsrState) (s : ClicState) (memory : Memory) (t : Choice) (pc : ℕ) → (entered_by shv c s memory t pc).clic.shape ≡ s.shape
entry_shape_by false c s memory t pc = refl
entry_shape_by true c s memory t pc = through_shape (loaded memory (vector_address c t.id) 4) c s t pc

pub entry_shape : (c : CsrState) (s : ClicState) (memory : Memory) (t : Choice) (pc : ℕ) → (entered c s memory t pc).clic.shape ≡ s.shape
unfolding entered
entry_shape c s memory t pc = entry_shape_by t.shv c s memory t pc

abbrev HasShape : ClicShape → State → Type 0
HasShape shape t = t.outside.clic.shape ≡ shape

pub step_has : (m : Meanings) (s : State) → (step m s).state.outside.clic.shape ≡ s.outside.clic.shape
step_has m s = step_holds (HasShape s.outside.clic.shape) m s (record {
  now = refl;
  does = λ ins bits length f d. record {
    goes = λ rd value target e. refl;
    loads = λ rd at width signed value e l. refl;
    loads_outside = λ rd at width signed found e l. load_shape m s.outside width (region at) found l;
    stores = λ at width value k e p. refl;
    stores_outside = λ at width value outside e l. store_shape m s.outside width value (region at) outside l;
    goes_on = λ e a. system_shape ins s.registers s.csrs s.outside.clic;
    jumps = λ target e a. system_shape ins s.registers s.csrs s.outside.clic;
  };
  raises = λ trap e. refl;
  enters = λ choice target t d e. entry_shape s.csrs s.outside.clic s.memory choice s.pc;
})

pub applied_has : (m : Meanings) (s : State) (what : What) → (applied m s what).outside.clic.shape ≡ s.outside.clic.shape
unfolding applied
applied_has m s what = applied_shape m s.outside what

pub arrived_has : (m : Meanings) (s : State) (what : What) → (arrived m s what).outside.clic.shape ≡ s.outside.clic.shape
unfolding arrived
arrived_has m s what = arrived_shape m s.outside what

pub events_have : (m : Meanings) (count : ℕ) (es : List Event) (s : State) → (with_events m count es s).outside.clic.shape ≡ s.outside.clic.shape
unfolding with_events
events_have m count es s = events_shape m count es s.outside

-- after a step and the events after it
pub both_have : (m : Meanings) (count : ℕ) (es : List Event) (s new : State) (turn : Turn) → turn ≡ step m s → new ≡ with_events m count es turn.state → new.outside.clic.shape ≡ s.outside.clic.shape
both_have m count es s new turn e taken =
    ap (λ (t : State). t.outside.clic.shape) taken
    ∙ events_have m count es turn.state
    ∙ ap (λ (t : Turn). t.state.outside.clic.shape) e
    ∙ step_has m s

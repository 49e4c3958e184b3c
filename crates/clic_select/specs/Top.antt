-- Which input interrupts (CLIC draft, "CLIC Interrupt Input Control (clicintctl)").
use Rattle.std.specs.Prelude.{◌≡◌, ℕ, zero, suc, ◌==◌, Bool, IsTrue, IsFalse, ◌&&◌, ◌||◌, if◌then◌else◌, nat_lt, length, Option, Some, None}
use Rattle.clic_regs.specs.Attribute.{is_hard_vectored}
use Rattle.clic_regs.specs.ClicState.{ClicState, is_pending, is_enabled, attribute_of}
use Rattle.clic_regs.specs.Level.{level_of, priority_of}
use Rattle.clic_select.specs.declared.choice.Choice.{Choice}

-- input i is pending and enabled
abbrev pub is_waiting : ClicState → ℕ → Bool
is_waiting c i = is_pending c i && is_enabled c i

-- input i as a choice
abbrev pub choice_of : ClicState → ℕ → Choice
choice_of c i = record { id = i; level = level_of c i; priority = priority_of c i; shv = is_hard_vectored (attribute_of c i) }

-- a is greater than b, by level, then by priority, then by number
abbrev pub is_greater : Choice → Choice → Bool
is_greater a b =
    nat_lt b.level a.level
    || (a.level == b.level && (nat_lt b.priority a.priority || (a.priority == b.priority && nat_lt b.id a.id)))

-- one of all inputs that are pending and enabled, and none of them is greater
pub record IsTop (c : ClicState) (t : Choice) : Type 0 where
  pub input : t ≡ choice_of c t.id
  pub waiting : IsTrue (is_waiting c t.id)
  pub greatest : (i : ℕ) → IsTrue (is_waiting c i) → IsFalse (is_greater (choice_of c i) t)

-- no input is pending and enabled
abbrev pub NoneWaits : ClicState → Type 0
NoneWaits c = (i : ℕ) → IsFalse (is_waiting c i)

-- the greater of two
abbrev pub greater : Option Choice → Choice → Choice
greater None b = b
greater (Some a) b = if is_greater a b then a else b

-- the greatest of the first n inputs that are pending and enabled
unfoldable pub greatest_of : ClicState → ℕ → Option Choice
greatest_of c zero = None
greatest_of c (suc n) = if is_waiting c n then Some (greater (greatest_of c n) (choice_of c n)) else greatest_of c n

-- the top
unfoldable pub top : ClicState → Option Choice
top c = greatest_of c (length c.pending)

-- The trace of one list of steps after another.
use Rattle.std.proofs.Common.{◌≡◌, Bool, true, List, [], ◌∷◌, ◌++◌, append_assoc, append-nil, refl, sym, ap, ◌∙◌}
use Rattle.hart_report.specs.Trace.{trace_line, step_text, trace_text}
use Rattle.hart_report.specs.declared.stepped.Stepped.{Stepped}

pub trace_text-append : (on : Bool) (xs ys : List Stepped) → trace_text on (xs ++ ys) ≡ trace_text on xs ++ trace_text on ys
unfolding trace_text
trace_text-append on [] ys = refl
trace_text-append on (x ∷ xs) ys = ap (λ t. step_text on x ++ t) (trace_text-append on xs ys) ∙ sym (append_assoc (step_text on x) (trace_text on xs) (trace_text on ys))

pub one_step_text : (on : Bool) (told : Stepped) → trace_text on (told ∷ []) ≡ step_text on told
unfolding trace_text
one_step_text on told = append-nil (step_text on told)

-- the line of a step in a trace
pub line_of_step : (on : Bool) (told told' : Stepped) → on ≡ true → told ≡ told' → step_text on told ≡ trace_line told'
line_of_step on told told' asked same = ap (λ o. step_text o told) asked ∙ ap trace_line same

-- One text after another.
use Rattle.std.proofs.Common.{◌≡◌, ℕ, ◌+◌, ◌-◌, min, List, ◌++◌, take, length, length-append, Option, Some, None, arith, append_assoc, refl, ◌∙◌, ap, sym, subst, [], Bool, true, false, append-nil}
use Rattle.std.specs.Io.KnownBytes.{Appends}
use Rattle.std.proofs.Math.Seq.{take-append-add}
use Rattle.std.proofs.lemmas.Grind.{common_steps}
use Rattle.board_outside.specs.Counts.{Rose}
use Rattle.board_outside.specs.Sink.{SinkView, Writes, TakesRoom}

pub appends_both : (o m n : Option (List ℕ)) (a b : List ℕ) → Appends o m a → Appends m n b → Appends o n (a ++ b)
appends_both None m n a b p q = tt
appends_both (Some xs) None n a b p q = absurd p
appends_both (Some xs) (Some ys) None a b p q = absurd q
appends_both (Some xs) (Some ys) (Some zs) a b p q = rw (q, p) (append_assoc xs a b)

in_first : (a b : List ℕ) (n : ℕ) → take (min n (length a)) (a ++ b) ≡ take n a
in_first a b n = grind (arith, common_steps)

-- room for both is room for the first, and then for the second
room_for_both : (r : Bool) (o m n : Option ℕ) (a b : ℕ) → TakesRoom true o m a → TakesRoom r m n b → TakesRoom r o n (a + b)
room_for_both r None m n a b p q = tt
room_for_both r (Some k) None n a b p q = λ fits. let none : None ≡ Some (k - a) = (p (omega arith)).1 in cc
room_for_both r (Some k) (Some j) n a b p q = λ fits.
    let left : Some j ≡ Some (k - a) = (p (omega arith)).1 in
    let same : j ≡ k - a = cc in
    let taken = q (omega arith) in
    let rest : j - b ≡ k - (a + b) = omega arith in
    (taken.0, taken.1 ∙ ap Some rest)

-- where the first didn't fit, both don't
no_room_for_both : (o n : Option ℕ) (a b : ℕ) → TakesRoom false o n a → TakesRoom false o n (a + b)
no_room_for_both None n a b p = tt
no_room_for_both (Some k) n a b p = λ fits. let whole : false ≡ true = (p (omega arith)).0 in cc

-- a text that was written, and then what became of the next
pub then_writes : {r : Bool} {o m n : SinkView} {a b : List ℕ} → Writes true o m a → Writes r m n b → Writes r o n (a ++ b)
then_writes {r = true} {o = o} {m = m} {n = n} {a = a} {b = b} p q = record {
  bytes = appends_both o.written m.written n.written a b p.bytes q.bytes;
  counts = q.counts ∙ p.counts;
  room = rw (length-append a b) (room_for_both true o.room m.room n.room (length a) (length b) p.room q.room);
}
then_writes {r = false} {o = o} {m = m} {n = n} {a = a} {b = b} p q = record {
  bytes = (length a + q.bytes.0, rw (take-append-add a b q.bytes.0) (appends_both o.written m.written n.written a (take q.bytes.0 b) p.bytes q.bytes.1));
  counts = subst (λ (x : ℕ). Rose x n.faults) p.counts q.counts;
  room = rw (length-append a b) (room_for_both false o.room m.room n.room (length a) (length b) p.room q.room);
}

-- a text that was not written, and any text that was to follow
pub stops_writing : {o n : SinkView} {a : List ℕ} (b : List ℕ) → Writes false o n a → Writes false o n (a ++ b)
stops_writing {o = o} {n = n} {a = a} b p = record {
  bytes = (min p.bytes.0 (length a), rw (in_first a b p.bytes.0) p.bytes.1);
  counts = p.counts;
  room = rw (length-append a b) (no_room_for_both o.room n.room (length a) (length b) p.room);
}

nothing_appended : (o : Option (List ℕ)) → Appends o o []
nothing_appended None = tt
nothing_appended (Some xs) = sym (append-nil xs)

no_room_taken : (o : Option ℕ) → TakesRoom true o o 0
no_room_taken None = tt
no_room_taken (Some k) = λ fits. let same : k ≡ k - 0 = omega arith in (refl, ap Some same)

-- no text
pub writes_nothing : (s : SinkView) → Writes true s s []
writes_nothing s = record { bytes = nothing_appended s.written; counts = refl; room = no_room_taken s.room }

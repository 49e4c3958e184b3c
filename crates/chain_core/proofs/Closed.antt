-- What a chain came to that is closed, by what its rounds came to.
use Rattle.std.proofs.Common.{◌≡◌, Bool, true, false, List, ℕ, ◌++◌, Result, Ok, Err, inl, inr, refl, sym, ap, ◌∙◌, subst}
use Rattle.std.specs.Prelude.{◌⊎◌, IsTrue, IfOk, IfErr}
use Rattle.std.proofs.lemmas.Bool.{false≢true}
use Rattle.board_outside.specs.Sink.{SinkView, Writes}
use Rattle.board_outside.proofs.Writing.{then_writes}
use Rattle.device_model.specs.Meanings.{Meanings}
use Rattle.hart_report.proofs.Texts.{same_text}
use Rattle.hart_report.specs.Text.{StopsAfter}
use Rattle.hart_board.specs.State.{State}
use Rattle.chain_core.specs.Text.{report}
use Rattle.chain_core.specs.Chain.{is_whole, is_done}
use Rattle.chain_core.specs.Closing.{ComesTo, closed_by, Closes}
use Rattle.chain_core.specs.declared.ended.Ended.{Ended}
use Rattle.chain_core.specs.declared.chain_end.ChainEnd.{ChainEnd}
use Rattle.chain_core.specs.declared.chain_end.ChainEnd.TheVariants.{Done, BudgetSpent, SinkFailed, Broken as BrokenOff}

-- the report tells the dead bytes where the chain is done, and none elsewhere
pub same_report : (m : Meanings) (dead other : List Bool) (b : State) (end : ChainEnd) (steps : ℕ) → (IsTrue (is_done end) → dead ≡ other) → report m dead b end steps ≡ report m other b end steps
unfolding report
same_report m dead other b (Done steps' bodies services) steps h = ap (λ l. report m l b (Done steps' bodies services) steps) (h refl)
same_report m dead other b BudgetSpent steps h = refl
same_report m dead other b (BrokenOff kind bodies) steps h = refl
same_report m dead other b SinkFailed steps h = refl

-- a whole end is that of the rounds
end_is : (whole : Bool) (end closed : ChainEnd) → closed ≡ closed_by whole end → is_whole closed ≡ true → closed ≡ end
end_is true end closed e w = e
end_is false end closed e w = absurd (false≢true (sym (ap is_whole e) ∙ w))

whole_is : (whole : Bool) (end closed : ChainEnd) → closed ≡ closed_by whole end → is_whole end ≡ true → is_whole closed ≡ whole
whole_is true end closed e w = ap is_whole e ∙ w
whole_is false end closed e w = ap is_whole e

module _ (m : Meanings) (due : Ended) (there : State) (hidden : List Bool) (lines : List ℕ) where
  abbrev due_report : List ℕ
  due_report = report m hidden there due.end due.steps

  module _ (board : State) (dead : List Bool) (old between : SinkView) where
    report_is : (ended : Ended) → ComesTo due there hidden lines ended board dead old between → report m dead board ended.end ended.steps ≡ due_report
    report_is ended h =
        same_report m dead hidden board ended.end ended.steps h.hides
        ∙ (ap (λ (b : State). report m hidden b ended.end ended.steps) h.stands
        ∙ ap (λ (k : Ended). report m hidden there k.end k.steps) h.ends)

    -- the board stands where the rounds end, or where they stopped
    pub closed_there : {E X : Type 0} (Stops : Type 0) (r : Result Ended E) → IfOk r (λ ended. ComesTo due there hidden lines ended board dead old between) → IfErr r (λ fault. Stops) → (board ≡ there → X) → (Stops → X) → X
    closed_there Stops (Ok ended) h cut at_end on_way = at_end h.stands
    closed_there Stops (Err fault) h cut at_end on_way = on_way cut

    module _ (new : SinkView) (closed : ChainEnd) where
      pub closed_end : {E : Type 0} (r : Result Ended E) → IfOk r (λ ended. ComesTo due there hidden lines ended board dead old between) → Closes m r dead board closed between new → IsTrue (is_whole closed) → (closed ≡ due.end) × (board ≡ there)
      closed_end (Ok ended) h x w = (end_is x.whole ended.end closed x.end_is w ∙ ap (λ (k : Ended). k.end) h.ends, h.stands)
      closed_end (Err fault) h x w = absurd (false≢true (sym (ap is_whole x.0) ∙ w))

      module _ (never : is_whole due.end ≡ true) where
        closed_whole : (ended : Ended) (whole : Bool) → ended ≡ due → closed ≡ closed_by whole ended.end → is_whole closed ≡ whole
        closed_whole ended whole e c = whole_is whole ended.end closed c (ap (λ (k : Ended). is_whole k.end) e ∙ never)

        -- what was written where the rounds stopped is a front of the whole text
        pub closed_text : {E : Type 0} (Stops : Type 0) (r : Result Ended E) → IfOk r (λ ended. ComesTo due there hidden lines ended board dead old between) → IfErr r (λ fault. Stops) → (Stops → Writes false old between (lines ++ due_report)) → Closes m r dead board closed between new → Writes (is_whole closed) old new (lines ++ due_report)
        closed_text Stops (Ok ended) h cut front x =
            subst (λ whole. Writes whole old new (lines ++ due_report)) (sym (closed_whole ended x.whole h.ends x.end_is))
            (then_writes h.told (same_text (report_is ended h) x.told))
        closed_text Stops (Err fault) h cut front x =
            subst (λ whole. Writes whole old new (lines ++ due_report)) (sym (ap is_whole x.0))
            (subst (λ o. Writes false old o (lines ++ due_report)) (sym x.1) (front cut))

        -- where the sink failed, that was in the report, or in the rounds
        pub closed_stopped : {E : Type 0} (Stops : SinkView → Type 0) (r : Result Ended E) → IfOk r (λ ended. ComesTo due there hidden lines ended board dead old between) → IfErr r (λ fault. Stops between) → Closes m r dead board closed between new → closed ≡ SinkFailed → ((board ≡ there) × StopsAfter old new lines due_report) ⊎ Stops new
        closed_stopped Stops (Ok ended) h cut x e =
            let failed : x.whole ≡ false = sym (closed_whole ended x.whole h.ends x.end_is) ∙ ap is_whole e in
            inl (h.stands, record { between = between; whole = h.told; broken = same_text (report_is ended h) (subst (λ whole. Writes whole between new (report m dead board ended.end ended.steps)) failed x.told) })
        closed_stopped Stops (Err fault) h cut x e = inr (subst Stops (sym x.1) cut)

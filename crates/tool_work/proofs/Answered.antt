-- What the checker's laws say of the chains of an image.
use Rattle.std.proofs.Common.{◌≡◌, ◌∙◌, ◌⊎◌, ℕ, zero, suc, ◌+◌, ◌≤◌, ◌<◌, Bool, true, false, List, [], ◌∷◌, ◌++◌, Option, Some, None, slice_get, slice_index, refl, sym, ap, subst, inl, inr, arith, length}
use Rattle.hart_words.specs.Registers.{register}
use Rattle.hart_exec.specs.Effect.{even}
use Rattle.hart_memory.specs.Memory.{Memory, zero_memory}
use Rattle.hart_memory.specs.Bytes.{number_at}
use Rattle.hart_memory.specs.Image.{ImageView}
use Rattle.hart_memory.specs.declared.address_map.TheConstants.{RAM_BASE, BANK_LEN}
use Rattle.clic_regs.specs.Shape.{ClicShape}
use Rattle.hart_board.specs.State.{State}
use Rattle.hart_board.specs.Event.{EventList}
use Rattle.board_inputs.specs.ImageLoading.{with_segments, loaded}
use Rattle.chain_moves.specs.Slot.{in_slot, slot_end}
use Rattle.chain_moves.specs.Start.{with_slot, slot_bytes, begun}
use Rattle.chain_moves.specs.Servicing.{Live, Servicing}
use Rattle.chain_moves.specs.Enter.{pointer}
use Rattle.chain_moves.specs.Machine.{When, Breaks}
use Rattle.chain_moves.specs.Run.{state_in}
use Rattle.chain_moves.specs.Moves.{move, servicing_machine}
use Rattle.chain_moves.specs.declared.broken.Broken.{Broken as BrokenBy}
use Rattle.chain_moves.specs.declared.dispatcher.Dispatcher.{Dispatcher}
use Rattle.chain_moves.proofs.Begun.{slot_same}
use Rattle.chain_moves.proofs.Leading.{list_is_run}
use Rattle.chain_moves.proofs.SlotBytes.{length-slot_bytes}
use Rattle.chain_core.specs.Both.{Starts}
use Rattle.chain_core.specs.Chain.{chain_end}
use Rattle.chain_core.specs.End.{EndsAs, IsBroken}
use Rattle.chain_core.specs.declared.chain_end.ChainEnd.{ChainEnd}
use Rattle.chain_core.specs.declared.chain_end.ChainEnd.TheVariants.{Broken as broken}
use Rattle.chain_core.proofs.Ends.{ends_so}
use Rattle.chain_flow.specs.Walk.{verdict}
use Rattle.chain_flow.specs.declared.region.Region.{Region}
use Rattle.chain_flow.specs.declared.lint_why.LintWhy.{LintWhy}
use Rattle.chain_flow.specs.declared.verdict.Verdict.{Verdict}
use Rattle.chain_flow.specs.declared.verdict.Verdict.TheVariants.{Yes, No}
use Rattle.chain_lint.specs.Bound.{bound}
use Rattle.chain_lint.specs.declared.uses.Use.{Use}
use Rattle.chain_lint.specs.Code.{image_rom}
use Rattle.chain_lint.specs.Tables.{word_place, is_bad_word, by_word, by_verdict, table_bound}
use Rattle.chain_lint.specs.Soundness.{HasCode, Premises, Lists, IsListed, IsListedTo, Begins, IsOther, outermost, YesIsSound, BoundIsSound, ListedIsSafe}
use Rattle.chain_lint.specs.declared.pair.Pair.{Pair}
use Rattle.chain_lint.specs.declared.table_bound.TableBound.{TableBound}
use Rattle.chain_lint.specs.declared.table_bound.TableBound.TheVariants.{Bound as bounded, BadTable, Refused}
use Rattle.tool_words.specs.Bound.{BoundWords}
use Rattle.tool_work.specs.Shipped.{shipped_meanings, shipped_board}
use Rattle.tool_work.specs.Region.{region_of}
use Rattle.tool_work.specs.Bound.{bound_made, table_of}
use Rattle.tool_work.specs.Chain.{chain_board}
use Rattle.tool_work.specs.Checked.{StandsAfter, YesHolds, KeepsToTable, IsWithin, BoundHolds, IsBrokenAt, BreaksElsewhere, IsChecked, IsCheckedBy}
use Rattle.tool_work.proofs.Agreed.{beyond}

-- ---- uses of the handlers in a table

lists_front : (level uses : ℕ) (us vs : List Use) → Lists level uses us → Lists level uses (us ++ vs)
lists_front level uses [] vs h = absurd h
lists_front level uses (u ∷ us) vs (inl h) = inl h
lists_front level uses (u ∷ us) vs (inr h) = inr (lists_front level uses us vs h)

lists_last : (level uses : ℕ) (us : List Use) → Lists level uses (us ++ record { level = level; uses = uses } ∷ [])
lists_last level uses [] = inl (refl, refl)
lists_last level uses (u ∷ us) = inr (lists_last level uses us)

-- the handler of a pair is accepted, and the list has its level with its uses
pub record IsUsed (code : List ℕ) (region : Region) (table : ℕ) (all : List Use) (p : Pair) : Type 0 where
  pub uses : ℕ
  pub verdict_is : verdict code (even (number_at code (word_place table p) 4)) region ≡ Yes uses
  pub listed : Lists p.level uses all

-- the uses of all handlers of a table, with what came before
pub record AreUsed (code : List ℕ) (region : Region) (table : ℕ) (ps : List Pair) (us : List Use) (bytes : ℕ) : Type 0 where
  pub all : List Use
  pub bound_is : bound all ≡ bytes
  pub before : (level uses : ℕ) → Lists level uses us → Lists level uses all
  pub each : (i : ℕ) (p : Pair) → slice_get ps i ≡ Some p → IsUsed code region table all p

module _ (code : List ℕ) (region : Region) (table bytes : ℕ) where
  each_of : (all : List Use) (p : Pair) (ps : List Pair) → IsUsed code region table all p → ((i : ℕ) (q : Pair) → slice_get ps i ≡ Some q → IsUsed code region table all q) → (i : ℕ) (q : Pair) → slice_get (p ∷ ps) i ≡ Some q → IsUsed code region table all q
  each_of all p ps here rest zero q e = subst (IsUsed code region table all) (let same : p ≡ q = cc in same) here
  each_of all p ps here rest (suc i) q e = rest i q e

  -- one pair more, by what becomes of those behind it
  module _ (p : Pair) (ps : List Pair) (us : List Use) (behind : (vs : List Use) → table_bound code region table ps vs ≡ bounded bytes → AreUsed code region table ps vs bytes) where
    by_answer : (v : Verdict) → verdict code (even (number_at code (word_place table p) 4)) region ≡ v → by_verdict (λ vs. table_bound code region table ps vs) p.level us v ≡ bounded bytes → AreUsed code region table (p ∷ ps) us bytes
    by_answer (Yes uses) is e =
        let rest = behind (us ++ record { level = p.level; uses = uses } ∷ []) e in
        record {
          all = rest.all;
          bound_is = rest.bound_is;
          before = λ level more h. rest.before level more (lists_front level more us (record { level = p.level; uses = uses } ∷ []) h);
          each = each_of rest.all p ps (record { uses = uses; verdict_is = is; listed = rest.before p.level uses (lists_last p.level uses us) }) rest.each;
        }
    by_answer (No why at) is e = absurd cc

    by_bad : (b : Bool) → by_word b (word_place table p) (by_verdict (λ vs. table_bound code region table ps vs) p.level us (verdict code (even (number_at code (word_place table p) 4)) region)) ≡ bounded bytes → AreUsed code region table (p ∷ ps) us bytes
    by_bad true e = absurd cc
    by_bad false e = by_answer (verdict code (even (number_at code (word_place table p) 4)) region) refl e

  pub used : (ps : List Pair) (us : List Use) → table_bound code region table ps us ≡ bounded bytes → AreUsed code region table ps us bytes
  unfolding table_bound
  used [] us e = record { all = us; bound_is = (let same : bound us ≡ bytes = cc in same); before = λ level uses h. h; each = λ i p there. absurd cc }
  used (p ∷ ps) us e = by_bad p ps us (λ vs h. used ps vs h) (is_bad_word (word_place table p)) e

-- ---- the board of a chain has the image's code

shipped_memory : (shape : ClicShape) → (shipped_board shape).memory ≡ zero_memory
unfolding shipped_board
shipped_memory shape = refl

module _ (d : Dispatcher) (image : ImageView) (events : EventList) (start : Starts shipped_meanings events.list d (chain_board d image events)) where
  code_is : (loaded image (shipped_board events.shape)).memory.rom ≡ image_rom image
  code_is = ap (λ (m : Memory). (with_segments image.segments m).rom) (shipped_memory events.shape)

  has_code : HasCode (image_rom image) (chain_board d image events).memory.rom
  has_code k out =
      let room : slot_end ≤ length (loaded image (shipped_board events.shape)).memory.rom = beyond (loaded image (shipped_board events.shape)).memory.rom (slot_bytes d) (length-slot_bytes d) start.valid.memory.rom_len in
      subst (λ (rom : List ℕ). slice_index (chain_board d image events).memory.rom k ≡ slice_index rom k) code_is
      (sym ((slot_same (loaded image (shipped_board events.shape)).memory.rom (slot_bytes d) room (length-slot_bytes d)).at k out))

  premises : (low high : ℕ) → Premises shipped_meanings events.list (image_rom image) (region_of low high) (chain_board d image events)
  premises low high = record { is_board = start.valid; scenario = (0, start.events); has_code = has_code; in_ram = record { lowest = omega arith; highest = omega arith } }

  module _ (safe : ListedIsSafe shipped_meanings) where
    listed : (words : BoundWords) (bytes n : ℕ) (u : AreUsed (image_rom image) (region_of words.low_is words.high_is) (table_of words.table_is) words.pairs_are [] bytes) → KeepsToTable words bytes d image events n
        → IsListedTo shipped_meanings events.list (image_rom image) (region_of words.low_is words.high_is) u.all (chain_board d image events) n
    listed words bytes n u k = record {
      listed = λ j s t v l b.
          let h = k.listed j s t v l b in
          let e = u.each h.place h.pair h.named in
          record {
            uses = e.uses;
            verdict_is = subst (λ (at : ℕ). verdict (image_rom image) at (region_of words.low_is words.high_is) ≡ Yes e.uses) (sym h.handler) e.verdict_is;
            listed = subst (λ (level : ℕ). Lists level e.uses u.all) (sym h.level) e.listed;
          };
      room = λ j s t v l b none.
          let h = k.room j s t v l b none in
          (subst (λ (n : ℕ). (region_of words.low_is words.high_is).low + n ≤ pointer s) (sym u.bound_is) h.0, h.1);
    }

    kinds : (words : BoundWords) (bytes n : ℕ) (t : Servicing) → bound_made words image ≡ bounded bytes → KeepsToTable words bytes d image events n → StandsAfter d image events n t
        → (v : Live) (vs : List Live) (when : When) (kind : BrokenBy) (bodies : ℕ) → t.live ≡ v ∷ vs → move shipped_meanings events.list t ≡ Breaks when kind bodies → IsOther kind
    kinds words bytes n t e k stands =
        let u = used (image_rom image) (region_of words.low_is words.high_is) (table_of words.table_is) bytes words.pairs_are [] e in
        (safe events.list (image_rom image) (region_of words.low_is words.high_is) u.all (chain_board d image events) n t (premises words.low_is words.high_is) (listed words bytes n u k) stands).kinds

    within : BoundIsSound shipped_meanings → BoundHolds d image events
    within deep words bytes n t e k stands =
        let u = used (image_rom image) (region_of words.low_is words.high_is) (table_of words.table_is) bytes words.pairs_are [] e in
        let b = deep events.list (image_rom image) (region_of words.low_is words.high_is) u.all (chain_board d image events) n t (premises words.low_is words.high_is) (listed words bytes n u k) stands in
        record {
          kinds = kinds words bytes n t e k stands;
          pointer = λ v vs live. subst (λ (n : ℕ). outermost t.live ≤ register t.registers 2 + n) u.bound_is (b.pointer v vs live);
        }

    elsewhere : (words : BoundWords) (bytes n bodies : ℕ) (t : Servicing) (when : When) (kind : BrokenBy) → bound_made words image ≡ bounded bytes → KeepsToTable words bytes d image events n → StandsAfter d image events n t
        → move shipped_meanings events.list t ≡ Breaks when kind bodies → (live : List Live) → t.live ≡ live → (t.live ≡ []) ⊎ IsOther kind
    elsewhere words bytes n bodies t when kind e k stands breaks [] is = inl is
    elsewhere words bytes n bodies t when kind e k stands breaks (v ∷ vs) is = inr (kinds words bytes n t e k stands v vs when kind bodies is breaks)

    breaks : BreaksElsewhere d image events
    breaks bound kind bodies e =
        let x = servicing_machine shipped_meanings events.list in
        let s = begun shipped_meanings events.list (chain_board d image events) in
        let h : IsBroken x d bound s kind bodies = subst (EndsAs x d bound s) e (ends_so x d bound s) in
        let stands : StandsAfter d image events (length h.made) h.state = ap state_in (list_is_run x s h.made h.state h.leads) in (
          length h.made,
          record { state = h.state; when = h.when; stands = stands; breaks = h.breaks },
          λ words bytes is k. elsewhere words bytes (length h.made) bodies h.state h.when kind is k stands h.breaks h.state.live refl,
        )

  pub checked : YesIsSound shipped_meanings → BoundIsSound shipped_meanings → ListedIsSafe shipped_meanings → IsChecked d image events
  checked one deep safe = record {
    yes = λ low high n t accepts stands. one events.list (image_rom image) (region_of low high) (chain_board d image events) n t (premises low high) accepts stands;
    bound = within safe deep;
    end = breaks safe;
  }

-- by whether there are direct services
pub checked_by : (d : Dispatcher) (image : ImageView) (events : EventList) → IsChecked d image events → (directs : Bool) → IsCheckedBy directs d image events
checked_by d image events h false = h
checked_by d image events h true = tt

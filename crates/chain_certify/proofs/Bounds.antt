-- Nested services stay above the bound.
use Rattle.chain_certify.specs.Soundness.{Lists, IsListed, outermost}
use Rattle.std.proofs.Common.{◌≡◌, ℕ, zero, suc, ◌+◌, ◌-◌, ◌^◌, ◌<◌, ◌≤◌, max, ◌⊎◌, inl, inr, ⊎_elim, Bool, List, [], ◌∷◌, refl, sym, ap, ◌∙◌, subst, arith}
use Rattle.std.specs.Prelude.{◌==◌}
use Rattle.std.proofs.lemmas.Bool.{eqb-false, cond_both}
use Rattle.hart_words.specs.TwosComplement.{word}
use Rattle.hart_words.specs.Registers.{register}
use Rattle.device_model.specs.Meanings.{Meanings}
use Rattle.clic_select.specs.declared.choice.Choice.{Choice}
use Rattle.hart_board.specs.declared.event.Event.{Event}
use Rattle.chain_moves.specs.Servicing.{Live, Servicing, marks, innermost_level}
use Rattle.chain_moves.specs.Enter.{is_enter_due, entered, new_frame, pointer}
use Rattle.chain_moves.specs.Machine.{Makes}
use Rattle.chain_moves.specs.Moves.{move}
use Rattle.chain_moves.specs.Kinds.{IsMoveBy}
use Rattle.chain_moves.specs.Ranges.{AreSuspended, IsInRange}
use Rattle.chain_moves.specs.declared.moves.Move.{Move}
use Rattle.chain_moves.specs.declared.moves.Move.TheVariants.{Enter, Leave, Body}
use Rattle.chain_moves.proofs.Alone.{leaves_alone}
use Rattle.chain_moves.proofs.Nested.{above}
use Rattle.chain_moves.proofs.OneOfThree.{is_one}
use Rattle.chain_lint.specs.Bound.{level_cost, bound_below, bound}
use Rattle.chain_lint.specs.declared.uses.Use.{Use}
use Rattle.chain_certify.specs.Soundness.{Certificates, IsSafe, IsBounded, AreAccepted}
use Rattle.chain_flow.specs.declared.region.Region.{Region}
use Rattle.chain_certify.proofs.Services.{Suspended, Services}
use Rattle.chain_certify.proofs.Invariant.{Inv}
use Rattle.chain_certify.proofs.Enters.{IsAccepted, IsRegion, pointer_nested}
use Rattle.chain_certify.proofs.Moves.{HasAccepted, next_keeps, safe_at}

-- ---- the sum
bound_step : (us : List Use) (a d : ℕ) → bound_below us a ≤ bound_below us (d + a)
unfolding bound_below
bound_step us a zero = let e : 0 + a ≡ a = omega arith in subst (λ x. bound_below us a ≤ bound_below us x) (sym e) (omega arith)
bound_step us a (suc d) =
    let i = bound_step us a d in
    let e : suc d + a ≡ suc (d + a) = omega arith in
    subst (λ x. bound_below us a ≤ bound_below us x) (sym e) (omega arith)

pub bound_grows : (us : List Use) (a b : ℕ) → a ≤ b → bound_below us a ≤ bound_below us b
bound_grows us a b l = let e : b - a + a ≡ b = omega arith in subst (λ x. bound_below us a ≤ bound_below us x) e (bound_step us a (b - a))

pub bound_next : (us : List Use) (level : ℕ) → bound_below us (suc level) ≡ bound_below us level + level_cost us level
unfolding bound_below
bound_next us level = refl

pub cost_of : (us : List Use) (level uses : ℕ) → Lists level uses us → 32 + uses ≤ level_cost us level
unfolding level_cost
cost_of [] level uses h = absurd h
cost_of (u ∷ us) level uses h =
    cond_both (u.level == level) (max (32 + u.uses) (level_cost us level)) (level_cost us level) (λ x. 32 + uses ≤ x)
    (λ e. ⊎_elim (λ (here : (u.level ≡ level) × (u.uses ≡ uses)). let same = here.1 in omega arith) (λ (there : Lists level uses us). let i = cost_of us level uses there in omega arith) h)
    (λ e. ⊎_elim (λ (here : (u.level ≡ level) × (u.uses ≡ uses)). absurd (eqb-false u.level level e here.0)) (λ (there : Lists level uses us). cost_of us level uses there) h)

-- ---- what a move does to the live services
pub record HasEntered (s t : Servicing) (v : Live) : Type 0 where
  pub live : t.live ≡ v ∷ s.live
  pub frame : v.mark.frame ≡ new_frame s
  pub above : innermost_level (marks s.live) < v.mark.level

abbrev pub Turns : Servicing → Servicing → Type 0
Turns s t = (t.live ≡ s.live) ⊎ ((v : Live) × (s.live ≡ v ∷ t.live)) ⊎ ((v : Live) × HasEntered s t v)

entered_turns : (s : Servicing) (t : Choice) → innermost_level (marks s.live) < t.level → Turns s (entered s t)
unfolding entered
entered_turns s t l = inr (inr (_, record { live = refl; frame = refl; above = l }))

turns_by : (m : Meanings) (es : List Event) (s : Servicing) (kind : Move) (t : Servicing) → IsMoveBy m es s kind t → Turns s t
turns_by m es s Enter t h = subst (Turns s) (sym h.made) (entered_turns s h.choice (above m es s h.choice (ap (is_enter_due s) (sym h.is_top) ∙ h.is_due)))
turns_by m es s Leave t h = inr (inl (leaves_alone m es s Leave t h).others)
turns_by m es s Body t h = inl (leaves_alone m es s Body t h).live

turns : (m : Meanings) (es : List Event) (s : Servicing) (kind : Move) (t : Servicing) → move m es s ≡ Makes kind t → Turns s t
turns m es s kind t e = turns_by m es s kind t (is_one m es s kind t e).1

-- ---- the frames of nested services
-- each frame is above the sum over the lower levels
abbrev pub AreAbove : List Use → ℕ → List Live → Type 0
AreAbove us p [] = Unit {0}
AreAbove us p (v ∷ vs) = (p ≤ v.mark.frame + 32 + bound_below us v.mark.level) × AreAbove us p vs

abbrev pub IsDeepest : Region → List Use → List Live → Type 0
IsDeepest region us [] = Unit {0}
IsDeepest region us (v ∷ vs) = (region.low + bound us ≤ outermost (v ∷ vs)) × (outermost (v ∷ vs) ≤ region.high) × AreAbove us (outermost (v ∷ vs)) (v ∷ vs)

abbrev pub AllListed : List ℕ → Region → Certificates → List Use → List Live → Type 0
AllListed code region certs us [] = Unit {0}
AllListed code region certs us (v ∷ vs) = IsListed code region certs us v × (v.mark.level < 256) × AllListed code region certs us vs

-- an Enter from the foreground has a pointer with room for the bound
abbrev pub HasRoom : Region → List Use → Servicing → Type 0
HasRoom region us s = (region.low + bound us ≤ pointer s) × (pointer s ≤ region.high)

bound_is : (us : List Use) → bound us ≡ bound_below us 256
unfolding bound
bound_is us = refl

-- a service with its uses has room
pub fits_below : (us : List Use) (level uses p frame : ℕ) → level < 256 → 32 + uses ≤ level_cost us level → p ≤ frame + 32 + bound_below us level → p ≤ frame - uses + bound us
fits_below us level uses p frame l c h =
    let n = bound_next us level in
    let g = bound_grows us (suc level) 256 l in
    let b = bound_is us in
    omega arith

pub fits_low : (us : List Use) (level uses p frame low : ℕ) → level < 256 → 32 + uses ≤ level_cost us level → p ≤ frame + 32 + bound_below us level → low + bound us ≤ p → low + uses ≤ frame
fits_low us level uses p frame low l c h r =
    let n = bound_next us level in
    let g = bound_grows us (suc level) 256 l in
    let b = bound_is us in
    omega arith

-- a frame below a service that is above its own
nested_above : (us : List Use) (level uses upper p frame sp new : ℕ) → level < upper → 32 + uses ≤ level_cost us level → p ≤ frame + 32 + bound_below us level → frame ≤ sp + uses → new + 32 ≡ sp → p ≤ new + 32 + bound_below us upper
nested_above us level uses upper p frame sp new l c h d e =
    let n = bound_next us level in
    let g = bound_grows us (suc level) upper l in
    omega arith

frame_is : (p : ℕ) → 32 ≤ p → p < 2 ^ 32 → word (p + (2 ^ 32 - 32)) + 32 ≡ p
frame_is p l h = omega arith

-- the level of a service that begins
level_small : (m : Meanings) (t : Servicing) (v : Live) (vs : List Live) → t.live ≡ v ∷ vs → IsInRange m t → v.mark.level < 256
level_small m t v vs e r = let all : AreSuspended (v ∷ vs) = subst AreSuspended e r.live in all.0.level

level_above : (live : List Live) (v w : Live) (ws : List Live) → live ≡ w ∷ ws → innermost_level (marks live) < v.mark.level → w.mark.level < v.mark.level
unfolding marks
level_above live v w ws q h = subst (λ x. innermost_level (marks x) < v.mark.level) q h

module _ (m : Meanings) (es : List Event) (code : List ℕ) (region : Region) (certs : Certificates) (in_ram : IsRegion region) (us : List Use) where
  -- the invariant of nested frames
  pub record Deep (s : Servicing) : Type 0 where
    pub inv : Inv m code region certs s
    pub deepest : IsDeepest region us s.live
    pub all_listed : AllListed code region certs us s.live

  accepted_first : (s t : Servicing) (v : Live) → s.live ≡ [] → HasEntered s t v → IsListed code region certs us v → v.mark.level < 256 → HasRoom region us s → IsAccepted code region certs v × IsDeepest region us (v ∷ [])
  accepted_first s t v none e l level r =
      let lowest = in_ram.lowest in
      let highest = in_ram.highest in
      let a = r.0 in
      let b = r.1 in
      let cost = cost_of us v.mark.level l.uses l.listed in
      let n = bound_next us v.mark.level in
      let g = bound_grows us (suc v.mark.level) 256 level in
      let total = bound_is us in
      let sum : v.mark.frame + 32 ≡ pointer s = ap (λ f. f + 32) e.frame ∙ frame_is (pointer s) (omega arith) (omega arith) in (
        record { uses = l.uses; checked_is = l.checked_is; low = fits_low us v.mark.level l.uses (v.mark.frame + 32) v.mark.frame region.low level cost (omega arith) (omega arith); high = omega arith },
        ((omega arith), (omega arith), ((omega arith), tt)),
      )

  accepted_nested : (s t : Servicing) (v w : Live) (ws : List Live) → s.live ≡ w ∷ ws → HasEntered s t v → IsListed code region certs us v → v.mark.level < 256 → (old : IsListed code region certs us w) → w.mark.level < 256 → Deep s → IsAccepted code region certs v × IsDeepest region us (v ∷ (w ∷ ws))
  accepted_nested s t v w ws some e l level old old_level d =
      let services : Services code region certs (w ∷ ws) s.registers s.pc s.memory.ram s.dead = subst (λ x. Services code region certs x s.registers s.pc s.memory.ram s.dead) some d.inv.services in
      let deepest : IsDeepest region us (w ∷ ws) = subst (λ x. IsDeepest region us x) some d.deepest in
      let runs = services.0 in
      let yes = runs.accepted in
      let yes' = old.checked_is in
      let same : runs.uses ≡ old.uses = cc in
      let deep = runs.deep in
      let top = runs.top in
      let framed_low = runs.framed.low in
      let framed_high = runs.framed.high in
      let lowest = in_ram.lowest in
      let highest = in_ram.highest in
      let cost = cost_of us w.mark.level old.uses old.listed in
      let cost' = cost_of us v.mark.level l.uses l.listed in
      let n = bound_next us w.mark.level in
      let g = bound_grows us (suc w.mark.level) 256 old_level in
      let total = bound_is us in
      let a = deepest.0 in
      let b = deepest.1 in
      let p : outermost (w ∷ ws) ≤ w.mark.frame + 32 + bound_below us w.mark.level = deepest.2.0 in
      let up : w.mark.level < v.mark.level = level_above s.live v w ws some e.above in
      let sp : pointer s ≡ register s.registers 2 = pointer_nested s.live w ws (register s.registers 2) s.scratch some in
      let words = d.inv.range.board.registers.words 2 in
      let sum : v.mark.frame + 32 ≡ register s.registers 2 = ap (λ f. f + 32) e.frame ∙ ap (λ x. word (x + (2 ^ 32 - 32)) + 32) sp ∙ frame_is (register s.registers 2) (omega arith) words in
      let above : outermost (w ∷ ws) ≤ v.mark.frame + 32 + bound_below us v.mark.level = nested_above us w.mark.level old.uses v.mark.level (outermost (w ∷ ws)) w.mark.frame (register s.registers 2) v.mark.frame up cost p (omega arith) sum in (
        record { uses = l.uses; checked_is = l.checked_is; low = fits_low us v.mark.level l.uses (outermost (w ∷ ws)) v.mark.frame region.low level cost' above a; high = omega arith },
        (a, b, (above, deepest.2)),
      )

  -- ---- what is accepted
  accepted_of : (live : List Live) (registers : List ℕ) (pc : ℕ) (ram : List ℕ) (dead : List Bool) → Services code region certs live registers pc ram dead → HasAccepted code region certs live
  accepted_of [] registers pc ram dead h = tt
  accepted_of (v ∷ vs) registers pc ram dead h = record { uses = h.0.uses; checked_is = h.0.accepted; low = h.0.framed.low; high = h.0.framed.high }

  accepted_below : (v : Live) (live : List Live) (ram : List ℕ) (dead : List Bool) → Suspended code region certs v live ram dead → HasAccepted code region certs live
  accepted_below v [] ram dead h = tt
  accepted_below v (w ∷ ws) ram dead h = record { uses = h.0.uses; checked_is = h.0.accepted; low = h.0.framed.low; high = h.0.framed.high }

  suspended_all : (v : Live) (live : List Live) (ram : List ℕ) (dead : List Bool) → Suspended code region certs v live ram dead → AreAccepted code region certs live
  suspended_all v [] ram dead h = tt
  suspended_all v (w ∷ ws) ram dead h = (record { uses = h.0.uses; checked_is = h.0.accepted; low = h.0.framed.low; high = h.0.framed.high }, suspended_all w ws ram dead h.1)

  accepted_all : (live : List Live) (registers : List ℕ) (pc : ℕ) (ram : List ℕ) (dead : List Bool) → Services code region certs live registers pc ram dead → AreAccepted code region certs live
  accepted_all [] registers pc ram dead h = tt
  accepted_all (v ∷ vs) registers pc ram dead h = (record { uses = h.0.uses; checked_is = h.0.accepted; low = h.0.framed.low; high = h.0.framed.high }, suspended_all v vs ram dead h.1)

  deepest_below : (v : Live) (live : List Live) → IsDeepest region us (v ∷ live) → IsDeepest region us live
  deepest_below v [] h = tt
  deepest_below v (w ∷ ws) h = (h.0, h.1, h.2.1)

  -- ---- a move
  module _ (s t : Servicing) (kind : Move) (d : Deep s) (made : move m es s ≡ Makes kind t) (range : IsInRange m t) where
    with_live : (live : List Live) → t.live ≡ live → HasAccepted code region certs live → IsDeepest region us live → AllListed code region certs us live → Deep t
    with_live live e a deepest listed = record {
      inv = next_keeps m es code region certs in_ram s kind t d.inv made range (subst (HasAccepted code region certs) (sym e) a);
      deepest = subst (IsDeepest region us) (sym e) deepest;
      all_listed = subst (AllListed code region certs us) (sym e) listed;
    }

    entered_deep : (v : Live) (live : List Live) → s.live ≡ live → HasEntered s t v → IsListed code region certs us v → (s.live ≡ [] → HasRoom region us s) → Deep t
    entered_deep v [] e h l r =
        let level = level_small m t v s.live h.live range in
        let both = accepted_first s t v e h l level (r e) in
        with_live (v ∷ []) (h.live ∙ ap (λ x. v ∷ x) e) both.0 both.1 (l, level, tt)
    entered_deep v (w ∷ ws) e h l r =
        let level = level_small m t v s.live h.live range in
        let listed : AllListed code region certs us (w ∷ ws) = subst (AllListed code region certs us) e d.all_listed in
        let both = accepted_nested s t v w ws e h l level listed.0 listed.1 d in
        with_live (v ∷ (w ∷ ws)) (h.live ∙ ap (λ x. v ∷ x) e) both.0 both.1 (l, level, listed)

    deep_by : Turns s t → ((v : Live) → t.live ≡ v ∷ s.live → IsListed code region certs us v) → ((v : Live) → t.live ≡ v ∷ s.live → s.live ≡ [] → HasRoom region us s) → Deep t
    deep_by (inl same) listed room = with_live s.live same (accepted_of s.live s.registers s.pc s.memory.ram s.dead d.inv.services) d.deepest d.all_listed
    deep_by (inr (inl (v, e))) listed room =
        let services : Services code region certs (v ∷ t.live) s.registers s.pc s.memory.ram s.dead = subst (λ x. Services code region certs x s.registers s.pc s.memory.ram s.dead) e d.inv.services in
        let all : AllListed code region certs us (v ∷ t.live) = subst (AllListed code region certs us) e d.all_listed in
        with_live t.live refl (accepted_below v t.live s.memory.ram s.dead services.1) (deepest_below v t.live (subst (IsDeepest region us) e d.deepest)) all.2
    deep_by (inr (inr (v, h))) listed room = entered_deep v s.live refl h (listed v h.live) (room v h.live)

    pub deep_next : ((v : Live) → t.live ≡ v ∷ s.live → IsListed code region certs us v) → ((v : Live) → t.live ≡ v ∷ s.live → s.live ≡ [] → HasRoom region us s) → Deep t
    deep_next listed room = deep_by (turns m es s kind t made) listed room

  pub deep_start : (s : Servicing) → Inv m code region certs s → s.live ≡ [] → Deep s
  deep_start s inv none = record { inv = inv; deepest = subst (IsDeepest region us) (sym none) tt; all_listed = subst (AllListed code region certs us) (sym none) tt }

  -- ---- what follows
  pointer_by_live : (live : List Live) (registers : List ℕ) (pc : ℕ) (ram : List ℕ) (dead : List Bool) (v : Live) (vs : List Live) → Services code region certs live registers pc ram dead → IsDeepest region us live → AllListed code region certs us live → live ≡ v ∷ vs → outermost live ≤ register registers 2 + bound us
  pointer_by_live [] registers pc ram dead v vs h d l e = absurd cc
  pointer_by_live (w ∷ ws) registers pc ram dead v vs h d l e =
      let yes = h.0.accepted in
      let yes' = l.0.checked_is in
      let same : h.0.uses ≡ l.0.uses = cc in
      let deep = h.0.deep in
      let low = h.0.framed.low in
      let cost = cost_of us w.mark.level l.0.uses l.0.listed in
      let below = fits_below us w.mark.level l.0.uses (outermost (w ∷ ws)) w.mark.frame l.1 cost d.2.0 in
      omega arith

  pub bounded_at : (t : Servicing) → Deep t → IsBounded code region certs us t
  bounded_at t d = record {
    pointer = λ v vs l. pointer_by_live t.live t.registers t.pc t.memory.ram t.dead v vs d.inv.services d.deepest d.all_listed l;
    frames = accepted_all t.live t.registers t.pc t.memory.ram t.dead d.inv.services;
  }

  pub deep_safe : (t : Servicing) → Deep t → IsSafe m es code region certs t
  deep_safe t d = safe_at m es code region certs in_ram t d.inv

-- What is known of all live services between two moves.
pub use Rattle.chain_certify.specs.Soundness.{handler_of}
use Rattle.std.proofs.Common.{◌≡◌, ℕ, Some, ◌+◌, ◌%◌, ◌≤◌, ◌⊎◌, inl, inr, ⊎_elim, Bool, true, false, List, [], ◌∷◌, length, set, ap, ◌∙◌, arith, length-set}
use Rattle.std.specs.Prelude.{nat_le, nat_lt}
use Rattle.std.proofs.lemmas.List.{get_or-set_same}
use Rattle.std.proofs.lemmas.Bool.{leb-true, ltb-true, le-leb, lt-ltb, and_parts, and_from, or_cases, false≢true}
use Rattle.hart_words.specs.TwosComplement.{word}
use Rattle.hart_words.specs.Registers.{register}
use Rattle.hart_memory.specs.declared.address_map.TheConstants.{RAM_BASE, BANK_LEN}
use Rattle.chain_moves.specs.Servicing.{Live, marks}
use Rattle.chain_moves.specs.Bytes.{in_frame, in_live_frame}
use Rattle.chain_moves.specs.Leave.{leave_registers, raised_pointer}
use Rattle.chain_certify.specs.Flow.{Flow}
use Rattle.chain_certify.specs.Rules.{in_region}
use Rattle.chain_certify.specs.Check.{Node, node_at, checked}
use Rattle.chain_certify.specs.Soundness.{Certificates}
use Rattle.chain_flow.specs.declared.region.Region.{Region}
use Rattle.chain_certify.proofs.Words.{Stays, stays_within, words_stay}
use Rattle.chain_certify.proofs.Handlers.{IsFramed, Knows, IsBack}

-- a node of the certificate is at pc, and what it says holds
pub record IsInCode (nodes : List Node) (kept : List ℕ) (frame : ℕ) (registers : List ℕ) (pc : ℕ) (ram : List ℕ) (dead : List Bool) : Type 0 where
  pub place : ℕ
  pub node : Node
  pub is_there : node_at nodes place ≡ Some node
  pub at : node.at ≡ pc
  pub knows : Knows kept frame registers ram dead node.flow

-- a service with these registers, at pc: in its handler or where it returns
pub record Runs (code : List ℕ) (region : Region) (certs : Certificates) (v : Live) (registers : List ℕ) (pc : ℕ) (ram : List ℕ) (dead : List Bool) : Type 0 where
  pub uses : ℕ
  pub accepted : checked code (handler_of v) region (certs (handler_of v)) ≡ Some uses
  pub framed : IsFramed region uses v.mark.kept v.mark.frame
  pub top : register registers 2 ≤ v.mark.frame
  pub deep : v.mark.frame ≤ register registers 2 + uses
  pub aligned : register registers 2 % 4 ≡ 0
  pub stands : IsInCode (certs (handler_of v)) v.mark.kept v.mark.frame registers pc ram dead ⊎ IsBack v.mark.kept registers pc

-- the registers that a service's Leave brings back
abbrev pub resumed : Live → List ℕ
resumed v = leave_registers v.mark.kept v (raised_pointer v.mark.kept)

-- the services that one has suspended, from it outwards
abbrev pub Suspended : List ℕ → Region → Certificates → Live → List Live → List ℕ → List Bool → Type 0
Suspended code region certs v [] ram dead = Unit {0}
Suspended code region certs v (w ∷ ws) ram dead = Runs code region certs w (resumed v) v.pc ram dead × Suspended code region certs w ws ram dead

abbrev pub Services : List ℕ → Region → Certificates → List Live → List ℕ → ℕ → List ℕ → List Bool → Type 0
Services code region certs [] registers pc ram dead = Unit {0}
Services code region certs (v ∷ vs) registers pc ram dead = Runs code region certs v registers pc ram dead × Suspended code region certs v vs ram dead

-- ---- the stack pointer that is brought back
pub leave_pointer : (registers : List ℕ) (v : Live) (sp : ℕ) → length registers ≡ 32 → register (leave_registers registers v sp) 2 ≡ sp
unfolding leave_registers
leave_pointer registers v sp l =
    get_or-set_same (set (set (set registers 1 v.ra) 10 v.a0) 11 v.a1) 2 sp 0
    (omega (arith, length-set (set (set registers 1 v.ra) 10 v.a0) 11 v.a1, length-set (set registers 1 v.ra) 10 v.a0, length-set registers 1 v.ra))

no_wrap : (frame high : ℕ) → frame + 32 ≤ high → high ≤ RAM_BASE + BANK_LEN → word (frame + 32) ≡ frame + 32
no_wrap frame high a b = omega arith

pub resumed_pointer : (region : Region) (uses : ℕ) (v : Live) → IsFramed region uses v.mark.kept v.mark.frame → register (resumed v) 2 ≡ v.mark.frame + 32
resumed_pointer region uses v i = leave_pointer v.mark.kept v (raised_pointer v.mark.kept) i.count ∙ ap (λ x. word (x + 32)) i.pointer ∙ no_wrap v.mark.frame region.high i.high i.highest

-- ---- frames
pub frames_from : (code : List ℕ) (region : Region) (certs : Certificates) (v : Live) (vs : List Live) (uses : ℕ) (ram : List ℕ) (dead : List Bool) (j : ℕ) → IsFramed region uses v.mark.kept v.mark.frame → Suspended code region certs v vs ram dead
    → in_live_frame (marks (v ∷ vs)) j ≡ true → (v.mark.frame ≤ j) × (in_region region j ≡ true)
unfolding in_live_frame marks
frames_from code region certs v [] uses ram dead j i h e =
    ⊎_elim
    (λ (a : in_frame v.mark.frame j ≡ true).
    let parts = and_parts (nat_le v.mark.frame j) (nat_lt j (v.mark.frame + 32)) a in
    let l = leb-true v.mark.frame j parts.0 in
    let r = ltb-true j (v.mark.frame + 32) parts.1 in
    let low = i.low in
    let high = i.high in
    (l, and_from (nat_le region.low j) (nat_lt j region.high) (le-leb region.low j (omega arith)) (lt-ltb j region.high (omega arith))))
    (λ (a : false ≡ true). absurd (false≢true a))
    (or_cases (in_frame v.mark.frame j) false e)
frames_from code region certs v (w ∷ ws) uses ram dead j i h e =
    ⊎_elim
    (λ (a : in_frame v.mark.frame j ≡ true).
    let parts = and_parts (nat_le v.mark.frame j) (nat_lt j (v.mark.frame + 32)) a in
    let l = leb-true v.mark.frame j parts.0 in
    let r = ltb-true j (v.mark.frame + 32) parts.1 in
    let low = i.low in
    let high = i.high in
    (l, and_from (nat_le region.low j) (nat_lt j region.high) (le-leb region.low j (omega arith)) (lt-ltb j region.high (omega arith))))
    (λ (a : in_live_frame (marks (w ∷ ws)) j ≡ true).
    let runs = h.0 in
    let top = runs.top in
    let sp = resumed_pointer region uses v i in
    let rest = frames_from code region certs w ws runs.uses ram dead j runs.framed h.1 a in
    let at = rest.0 in
    (omega arith, rest.1))
    (or_cases (in_frame v.mark.frame j) (in_live_frame (marks (w ∷ ws)) j) e)

-- ---- what stays while others run
knows_stay : (kept : List ℕ) (frame : ℕ) (registers ram ram' : List ℕ) (dead dead' : List Bool) (f : Flow) → RAM_BASE ≤ register registers 2 → Stays (register registers 2) frame ram ram' dead dead' → Knows kept frame registers ram dead f → Knows kept frame registers ram' dead' f
knows_stay kept frame registers ram ram' dead dead' f l s k = record { long = k.long; values = k.values; words = words_stay kept ram ram' dead dead' (register registers 2) frame f.words l s k.words }

pub runs_stay : (code : List ℕ) (region : Region) (certs : Certificates) (v : Live) (registers : List ℕ) (pc : ℕ) (ram ram' : List ℕ) (dead dead' : List Bool)
    → Stays (register registers 2) v.mark.frame ram ram' dead dead' → Runs code region certs v registers pc ram dead → Runs code region certs v registers pc ram' dead'
runs_stay code region certs v registers pc ram ram' dead dead' s r =
    let deep = r.deep in
    let low = r.framed.low in
    let lowest = r.framed.lowest in
    record {
      uses = r.uses;
      accepted = r.accepted;
      framed = r.framed;
      top = r.top;
      deep = r.deep;
      aligned = r.aligned;
      stands = ⊎_elim
          (λ (c : IsInCode (certs (handler_of v)) v.mark.kept v.mark.frame registers pc ram dead). inl (record {
            place = c.place;
            node = c.node;
            is_there = c.is_there;
            at = c.at;
            knows = knows_stay v.mark.kept v.mark.frame registers ram ram' dead dead' c.node.flow (omega arith) s c.knows;
          }))
          (λ (b : IsBack v.mark.kept registers pc). inr b)
          r.stands;
    }

pub suspended_stays : (code : List ℕ) (region : Region) (certs : Certificates) (v : Live) (vs : List Live) (uses : ℕ) (ram ram' : List ℕ) (dead dead' : List Bool) → IsFramed region uses v.mark.kept v.mark.frame
    → Stays v.mark.frame region.high ram ram' dead dead' → Suspended code region certs v vs ram dead → Suspended code region certs v vs ram' dead'
suspended_stays code region certs v [] uses ram ram' dead dead' i s h = tt
suspended_stays code region certs v (w ∷ ws) uses ram ram' dead dead' i s h =
    let runs = h.0 in
    let top = runs.top in
    let high = runs.framed.high in
    let sp = resumed_pointer region uses v i in (
      runs_stay code region certs w (resumed v) v.pc ram ram' dead dead' (stays_within v.mark.frame region.high (register (resumed v) 2) w.mark.frame ram ram' dead dead' (omega arith) (omega arith) s) runs,
      suspended_stays code region certs w ws runs.uses ram ram' dead dead' runs.framed (stays_within v.mark.frame region.high w.mark.frame region.high ram ram' dead dead' (omega arith) (omega arith) s) h.1,
    )

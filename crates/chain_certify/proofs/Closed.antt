-- The laws, by induction over the moves of a run.
use Rattle.std.proofs.Common.{◌≡◌, ℕ, zero, suc, List, [], refl, subst, arith}
use Rattle.device_model.specs.Meanings.{Meanings, IsSound}
use Rattle.hart_board.specs.State.{State}
use Rattle.hart_board.specs.declared.event.Event.{Event}
use Rattle.chain_moves.specs.Servicing.{Servicing}
use Rattle.chain_moves.specs.Moves.{servicing_machine}
use Rattle.chain_moves.specs.Start.{begun}
use Rattle.chain_lint.specs.declared.uses.Use.{Use}
use Rattle.chain_certify.specs.Soundness.{Certificates, Premises, IsAfter, AcceptsTo, YesIsSound, IsListedTo, BoundIsSound, ListedIsSafe}
use Rattle.chain_flow.specs.declared.region.Region.{Region}
use Rattle.chain_certify.proofs.Invariant.{Inv}
use Rattle.chain_lint.proofs.Runs.{before, at_start}
use Rattle.chain_lint.proofs.Starts.{after_range}
use Rattle.chain_certify.proofs.Starts.{start_known}
use Rattle.chain_certify.proofs.Moves.{next_keeps, safe_at}
use Rattle.chain_certify.proofs.Bounds.{Deep, deep_start, deep_next, bounded_at, deep_safe}

module _ (m : Meanings) (good : IsSound m) where
  module _ (es : List Event) (code : List ℕ) (region : Region) (certs : Certificates) (b : State) (p : Premises m es code region b) where
    known : (n : ℕ) (t : Servicing) → AcceptsTo m es code region certs b n → IsAfter m es b n t → Inv m code region certs t
    known zero t a e = subst (Inv m code region certs) (at_start (servicing_machine m es) (begun m es b) t e) (start_known m good es code region certs b p)
    known (suc n) t a e =
        let x = before (servicing_machine m es) (begun m es b) n t e in
        next_keeps m es code region certs p.in_ram x.state x.kind t (known n x.state (λ j l. a j (omega arith)) x.is_there) x.moves (after_range m good es code region b p (suc n) t e) (a (suc n) (omega arith) t e)

    start_live : (begun m es b).live ≡ []
    unfolding begun
    start_live = refl

    deep : (us : List Use) (n : ℕ) (t : Servicing) → IsListedTo m es code region certs us b n → IsAfter m es b n t → Deep m es code region certs p.in_ram us t
    deep us zero t l e = subst (Deep m es code region certs p.in_ram us) (at_start (servicing_machine m es) (begun m es b) t e) (deep_start m es code region certs p.in_ram us (begun m es b) (start_known m good es code region certs b p) start_live)
    deep us (suc n) t l e =
        let x = before (servicing_machine m es) (begun m es b) n t e in
        deep_next m es code region certs p.in_ram us x.state t x.kind
        (deep us n x.state (record { listed = λ j s u v k. l.listed j s u v (omega arith); room = λ j s u v k. l.room j s u v (omega arith) }) x.is_there)
        x.moves (after_range m good es code region b p (suc n) t e)
        (λ v live. l.listed n x.state t v (omega arith) (record { before = x.is_there; after = e; live = live }))
        (λ v live none. l.room n x.state t v (omega arith) (record { before = x.is_there; after = e; live = live }) none)

  pub yes_is_sound : YesIsSound m
  yes_is_sound es code region certs b n t p a e = safe_at m es code region certs p.in_ram t (known es code region certs b p n t a e)

  pub bound_is_sound : BoundIsSound m
  bound_is_sound es code region certs us b n t p l e = bounded_at m es code region certs p.in_ram us t (deep es code region certs b p us n t l e)

  pub listed_is_safe : ListedIsSafe m
  listed_is_safe es code region certs us b n t p l e = deep_safe m es code region certs p.in_ram us t (deep es code region certs b p us n t l e)

-- A command is one that clap's own account of its words covers, where five facts hold of the App that its definition builds: each is `refl`
-- there.
use Rattle.std.proofs.Common.{◌≡◌, [], true, sym, subst}
use Rattle.std.specs.List.{list_all}
use Rattle.clap.specs.Words.{App, is_simple, is_simple_and_free}
use Rattle.clap.specs.Simple.{built}
use Rattle.clap.specs.Takes.{default_passes}
use Rattle.clap.specs.Faults.{has_free_rules}
use Rattle.tool_frame.specs.Options.{IsPlainApp}

-- by the App that the definition builds
pub plain_by : (app known : App) → app ≡ known → is_simple known ≡ true → is_simple_and_free known ≡ true → (built known).subs ≡ [] → list_all default_passes (built known).top.rules ≡ true → has_free_rules (built known).top ≡ true → IsPlainApp app
plain_by app known e simple free alone defaults rules =
    subst IsPlainApp (sym e) (record { simple = simple; simple_and_free = free; alone = alone; defaults = defaults; rules = rules })

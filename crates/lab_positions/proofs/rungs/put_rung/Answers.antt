use Rattle.std.specs.Prelude.{is_ok}
use Rattle.std.proofs.lemmas.List.Elements.{All-set}
use Rattle.lab_positions.specs.Places.{IsReached}
use Rattle.lab_positions.proofs.Times.{pushed_all}
use Rattle.lab_positions.proofs.rungs.put_rung.Goals as goal

pub returns-then-slot-len : goal.returns-then-slot-len
returns-then-slot-len g c = λ timing events base here all. All-set (IsReached g.D.Device.means timing events base) c.args.rungs.now.items c.args.slot c.args.place here all

pub returns-after-push : goal.returns-after-push
returns-after-push g c = λ timing events base here all. pushed_all (IsReached g.D.Device.means timing events base) c.args.rungs.now.items c.push.new.self.items c.args.place (is_ok c.push.result) c.push.ensures.items here all

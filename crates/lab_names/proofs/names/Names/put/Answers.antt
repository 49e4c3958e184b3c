use Rattle.std.proofs.Common.{◌∙◌, ap, map}
use Rattle.lab_names.specs.Table.{name_of_entry}
use Rattle.lab_names.proofs.Entries.{put_entry, same_put}
use Rattle.lab_names.proofs.names.Names.put.Goals as goal

pub returns-clause-ok : goal.returns-clause-ok
returns-clause-ok c =
    ap (map name_of_entry) c.in_ok-insert.ensures.entries
    ∙ put_entry c.self.inside.table.entries c.args.address c.in_ok-bytes.bytes
    ∙ same_put c.args.address _ _ _ _ c.in_ok-bytes.ensures.items c.self.view_is

use Rattle.std.proofs.Common.{◌+◌, ◌-◌, length, ℕ, arith, refl, ap, ◌∙◌}
use Rattle.chain_flow.specs.declared.look.Look.TheVariants.{Refuses}
use Rattle.chain_time.proofs.Downward.{refused_way, returns_way, goes_way, branches_way, above_or_none, small_way}
use Rattle.chain_time.proofs.ways.next_way.Goals as goal

pub overflow_add-result : goal.overflow_add-result
overflow_add-result c =
    let is = above_or_none c.args.code.now.present.rom c.args.rows.now (65535 - length c.args.rows.now) c.in-GoesTo.target c.way_in.result refl c.requires.room (c.way_in.ensures.above c.args.code.now.present.rom c.requires.ways) c.way_in.ensures.below in
    let small = small_way c.args.code.now.present.rom (65535 - length c.args.rows.now) c.in-GoesTo.target c.way_in.result is in
    omega arith

pub overflow_add-result-in-Branches : goal.overflow_add-result-in-Branches
overflow_add-result-in-Branches c =
    let is = above_or_none c.args.code.now.present.rom c.args.rows.now (65535 - length c.args.rows.now) c.in-Branches.far c.way_in-in-Branches.result refl c.requires.room (c.way_in-in-Branches.ensures.above c.args.code.now.present.rom c.requires.ways) c.way_in-in-Branches.ensures.below in
    let also = above_or_none c.args.code.now.present.rom c.args.rows.now (65535 - length c.args.rows.now) c.in-Branches.near c.way_in-in-Branches-2.result refl c.requires.room (c.way_in-in-Branches-2.ensures.above c.args.code.now.present.rom c.requires.ways) c.way_in-in-Branches-2.ensures.below in
    let small = small_way c.args.code.now.present.rom (65535 - length c.args.rows.now) c.in-Branches.far c.way_in-in-Branches.result is in
    let also_small = small_way c.args.code.now.present.rom (65535 - length c.args.rows.now) c.in-Branches.near c.way_in-in-Branches-2.result also in
    let most = c.max.ensures in
    omega arith

pub returns-in-Refuses : goal.returns-in-Refuses
returns-in-Refuses c = refused_way c.args.code.now.present.rom (65535 - length c.args.rows.now) c.targets_at.result c.targets_at.ensures (Refuses c.in-Refuses.field-0) c.in-Refuses.is refl

pub returns-in-Returns : goal.returns-in-Returns
returns-in-Returns c = returns_way c.args.code.now.present.rom (65535 - length c.args.rows.now) c.targets_at.result c.targets_at.ensures c.in-Returns.is

pub returns-in-GoesTo : goal.returns-in-GoesTo
returns-in-GoesTo c =
    let is = above_or_none c.args.code.now.present.rom c.args.rows.now (65535 - length c.args.rows.now) c.in-GoesTo.target c.way_in.result refl c.requires.room (c.way_in.ensures.above c.args.code.now.present.rom c.requires.ways) c.way_in.ensures.below in
    goes_way c.args.code.now.present.rom (65535 - length c.args.rows.now) c.targets_at.result c.targets_at.ensures c.in-GoesTo.target c.way_in.result c.in-GoesTo.is is

pub returns-in-Branches : goal.returns-in-Branches
returns-in-Branches c =
    let is = above_or_none c.args.code.now.present.rom c.args.rows.now (65535 - length c.args.rows.now) c.in-Branches.far c.way_in-in-Branches.result refl c.requires.room (c.way_in-in-Branches.ensures.above c.args.code.now.present.rom c.requires.ways) c.way_in-in-Branches.ensures.below in
    let also = above_or_none c.args.code.now.present.rom c.args.rows.now (65535 - length c.args.rows.now) c.in-Branches.near c.way_in-in-Branches-2.result refl c.requires.room (c.way_in-in-Branches-2.ensures.above c.args.code.now.present.rom c.requires.ways) c.way_in-in-Branches-2.ensures.below in
    ap (λ (m : ℕ). 1 + m) c.max.ensures
    ∙ branches_way c.args.code.now.present.rom (65535 - length c.args.rows.now) c.targets_at.result c.targets_at.ensures c.in-Branches.far c.in-Branches.near c.way_in-in-Branches.result c.way_in-in-Branches-2.result c.in-Branches.is is also

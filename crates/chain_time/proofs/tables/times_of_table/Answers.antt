use Rattle.std.proofs.Common.{◌≡◌, [], map, rules}
use Rattle.chain_lint.specs.Code.{image_rom}
use Rattle.chain_lint.specs.Tables.{table_bound}
use Rattle.chain_lint.specs.declared.table_bound.TableBound.TheVariants.{Bound, BadTable, Refused}
use Rattle.chain_time.specs.Table.{pair_of, timed}
use Rattle.chain_time.proofs.Accepts.{good_of, times_bound, times_bad, times_refused}
use Rattle.chain_time.proofs.tables.times_of_table.Goals as goal

pub times_in-requires-clause-words : goal.times_in-requires-clause-words
times_in-requires-clause-words c =
    let ps : c.as_slice.result.now ≡ map (λ q. pair_of q) c.args.triples.now = search rules in
    let is : c.in_ok-bound_of_table.field-0 ≡ table_bound (image_rom c.args.image.now) c.args.region c.args.table c.as_slice.result.now [] = search rules in
    let bound : c.in_ok-bound_of_table.field-0 ≡ Bound c.in-Bound.field-0 = search rules in
    good_of (image_rom c.args.image.now) c.args.region c.args.table c.args.triples.now c.as_slice.result.now c.in_ok-bound_of_table.field-0 c.in-Bound.field-0 ps is bound

pub returns-in-Bound : goal.returns-in-Bound
returns-in-Bound c =
    let ps : c.as_slice.result.now ≡ map (λ q. pair_of q) c.args.triples.now = search rules in
    let is : c.in_ok-bound_of_table.field-0 ≡ table_bound (image_rom c.args.image.now) c.args.region c.args.table c.as_slice.result.now [] = search rules in
    let bound : c.in_ok-bound_of_table.field-0 ≡ Bound c.in-Bound.field-0 = search rules in
    let times : c.in_ok-times_in-in-Bound.field-0 ≡ map (λ q. timed (image_rom c.args.image.now) c.args.table q) c.args.triples.now = search rules in
    times_bound (image_rom c.args.image.now) c.args.region c.args.table c.args.triples.now c.as_slice.result.now c.in_ok-bound_of_table.field-0 c.in-Bound.field-0 c.in_ok-times_in-in-Bound.field-0 ps is bound times

pub returns-in-BadTable : goal.returns-in-BadTable
returns-in-BadTable c =
    let ps : c.as_slice.result.now ≡ map (λ q. pair_of q) c.args.triples.now = search rules in
    let is : c.in_ok-bound_of_table.field-0 ≡ table_bound (image_rom c.args.image.now) c.args.region c.args.table c.as_slice.result.now [] = search rules in
    let bad : c.in_ok-bound_of_table.field-0 ≡ BadTable c.in-BadTable.at = search rules in
    times_bad (image_rom c.args.image.now) c.args.region c.args.table c.args.triples.now c.as_slice.result.now c.in_ok-bound_of_table.field-0 c.in-BadTable.at ps is bad

pub returns : goal.returns
returns c =
    let ps : c.as_slice.result.now ≡ map (λ q. pair_of q) c.args.triples.now = search rules in
    let is : c.in_ok-bound_of_table.field-0 ≡ table_bound (image_rom c.args.image.now) c.args.region c.args.table c.as_slice.result.now [] = search rules in
    let no : c.in_ok-bound_of_table.field-0 ≡ Refused c.in-Refused.why c.in-Refused.at = search rules in
    times_refused (image_rom c.args.image.now) c.args.region c.args.table c.args.triples.now c.as_slice.result.now c.in_ok-bound_of_table.field-0 c.in-Refused.why c.in-Refused.at ps is no

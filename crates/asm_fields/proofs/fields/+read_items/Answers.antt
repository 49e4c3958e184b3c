use Rattle.std.proofs.Common.{◌+◌, map, drop, option_and_then, sym, ap, ◌∙◌, arith}
use Rattle.asm_text.specs.Words.{word_at}
use Rattle.asm_text.specs.Reading.{IsTokenOf}
use Rattle.asm_fields.specs.Fields.{read_items}
use Rattle.asm_fields.specs.Seen.{seen}
use Rattle.asm_fields.proofs.Items.{none_left, none_more, read_on, length_words, is_zero, is_more, tail_is, all_at}
use Rattle.asm_fields.proofs.fields.+read_items.Goals as goal

pub returns-else-at-len : goal.returns-else-at-len
returns-else-at-len t c = none_left c.args.items.now _ _ (is_zero _ _ c.is_empty.ensures c.if-is_empty.true) (omega (arith, length_words c.args.line.now c.args.tokens.now c.args.at))

pub returns-then-at-len-2 : goal.returns-then-at-len-2
returns-then-at-len-2 t c = none_more c.args.items.now _ _ (is_more _ _ c.is_empty.ensures c.if-is_empty.false) (omega (arith, length_words c.args.line.now c.args.tokens.now c.args.at))

pub read_item-requires : goal.read_item-requires
read_item-requires t c = all_at (IsTokenOf c.args.line.now) c.args.tokens.now c.args.at c.get.result c.requires.tokens c.get.ensures

pub returns-in-Some : goal.returns-in-Some
returns-in-Some t c =
    c.read_items.ensures
    ∙ ap (λ is. read_items is (map (word_at c.args.line.now) (drop (c.args.at + 1) c.args.tokens.now)) (seen c.in-Some.more)) (tail_is c.args.items.now)
    ∙ ap (λ m. option_and_then (read_items (drop 1 c.args.items.now) (map (word_at c.args.line.now) (drop (c.args.at + 1) c.args.tokens.now))) m) c.in-Some.ensures
    ∙ sym (read_on c.args.items.now _ c.args.line.now c.args.tokens.now c.args.at c.get.result _ (is_more _ _ c.is_empty.ensures c.if-is_empty.false) c.get.ensures)

pub returns-in-None : goal.returns-in-None
returns-in-None t c =
    ap (λ m. option_and_then (read_items (drop 1 c.args.items.now) (map (word_at c.args.line.now) (drop (c.args.at + 1) c.args.tokens.now))) m) c.in-None.ensures
    ∙ sym (read_on c.args.items.now _ c.args.line.now c.args.tokens.now c.args.at c.get.result _ (is_more _ _ c.is_empty.ensures c.if-is_empty.false) c.get.ensures)

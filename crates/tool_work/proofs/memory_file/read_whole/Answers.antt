use Rattle.std.proofs.Common.{[]}
use Rattle.std.proofs.lemmas.Result.{err_from_is_err_and}
use Rattle.tool_work.proofs.MemoryTexts.{told_fails}
use Rattle.tool_work.proofs.memory_file.read_whole.Goals as goal

pub returns-in_err-feed : goal.returns-in_err-feed
returns-in_err-feed c =
    let p = err_from_is_err_and c.from_residual.result c.from_residual.ensures.1 in
    rw (p.1, p.2) (told_fails c.args.entry c.args.bytes.now c.feed.new.self.standing _ (c.in_err-feed.ensures.foretells c.args.entry [] c.new-reader.ensures.read) c.in_err-feed.ensures.answer)

pub returns : goal.returns
returns c = c.finish.ensures.exact c.args.entry c.args.bytes.now (c.in_ok-feed.ensures.read c.args.entry [] c.new-reader.ensures.read)

-- `lines::Lines::keep` meets its contract. Assumes nothing.
use borrow.Author.Rules.{rules}
use Rattle.lines.proofs.Kept.{kept_put}
use Rattle.lines.proofs.Lines.keep.Goals as goal

pub returns : goal.returns
returns c =
    let put = c.put_text-self.ensures in
    kept_put c.args.self.now c.args.bytes.now (search rules) (search rules) put.value put.out_after

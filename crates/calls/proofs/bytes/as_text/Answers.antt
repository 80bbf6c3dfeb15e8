-- `calls::bytes::as_text` meets its contract. Assumes nothing.
use Rattle.std.proofs.Common.{rules}
use Rattle.std.proofs.lemmas.Str.{IsUtf8-from_ascii}
use Rattle.calls.proofs.bytes.as_text.Goals as goal

pub unwrap-requires : goal.unwrap-requires
unwrap-requires c = let known = IsUtf8-from_ascii c.args.digits.now c.requires in search rules

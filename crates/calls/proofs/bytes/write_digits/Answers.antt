-- `calls::bytes::write_digits` meets its contract. Assumes nothing.
use Rattle.calls.proofs.Ascii.{digits_ascii, written_ascii}
use Rattle.calls.proofs.bytes.write_digits.Goals as goal

pub as_text-requires : goal.as_text-requires
as_text-requires g c = written_ascii _ 16 (digits_ascii _ _) c.put_hex_digits-end.result c.put_hex_digits-end.ensures.out_after c.first.ensures

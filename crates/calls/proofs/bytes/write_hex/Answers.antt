-- `calls::bytes::write_hex` meets its contract. Assumes nothing.
use Rattle.calls.proofs.Ascii.{bytes_ascii, written_ascii}
use Rattle.calls.proofs.bytes.write_hex.Goals as goal

pub as_text-requires : goal.as_text-requires
as_text-requires g c =
    written_ascii _ 128 (bytes_ascii c.args.bytes.now c.type_inv.bytes) c.put_hex-end.result c.put_hex-end.ensures.out_after c.first.ensures

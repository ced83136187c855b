use Rattle.byte_fields.proofs.Widths.{read_back, rewritten, signed_read_back, signed_rewritten}
use Rattle.byte_fields.proofs.fields_round_trip.Goals as goal

pub returns : goal.returns
returns c = record { written = read_back; read = rewritten; signed_written = signed_read_back; signed_read = signed_rewritten }

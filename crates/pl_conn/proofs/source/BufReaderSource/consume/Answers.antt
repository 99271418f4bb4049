use Rattle.std.proofs.Common.{◌==◌}
use Rattle.std.specs.Io.Buffered.{reader_buffer, reader_capacity, reader_inner}
use Rattle.pl_conn.proofs.Reading.{takes_buffered}
use Rattle.pl_conn.proofs.source.BufReaderSource.consume.Goals as goal

pub returns : goal.returns
returns g c = record {
  taken = takes_buffered (reader_capacity c.args.self.now == 0) (g.R.Read.remaining (reader_inner c.args.self.now)) _ (reader_buffer c.args.self.now) c.args.count
      c.requires.few c.consume.ensures.bytes;
}

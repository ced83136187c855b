use Rattle.std.proofs.Common.{◌≡◌, Ok, ◌∙◌}
use Rattle.std.proofs.lemmas.Result.{err_from_is_err_and}
use Rattle.hex_source.specs.declared.fault.Fault.TheVariants.{HalfByte}
use Rattle.hex_source.specs.declared.source_error.SourceError.TheVariants.{Misspelled}
use Rattle.hex_source.specs.Spelling.{spelled, IsFaultOf}
use Rattle.hex_source.proofs.Letterwise.{behind-ended}
use Rattle.hex_source.proofs.Parsed.{laid_out_from_spelled, is_break_from_fault}
use Rattle.hex_source.proofs.Piecewise.{spelled-laid_out, spelled-breaks_off, memory_at_laid_out, fault_at_break}
use Rattle.hex_source.proofs.reading.bytes_of.Goals as goal

pub returns-in_err-reading : goal.returns-in_err-reading
returns-in_err-reading c =
    let text = c.args.source.now in
    let p = err_from_is_err_and c.from_residual.result c.from_residual.ensures.1 in
    let h = c.in_err-reading.ensures.err in
    rw (p.1, p.2) (record {
      ok = tt;
      err = h;
      laid_out = λ bytes laid. memory_at_laid_out text bytes _ h laid;
      breaks_off = λ misspelling breaks. fault_at_break text misspelling _ h breaks;
      was_laid_out = tt;
      was_broken = is_break_from_fault text _ h;
    })

pub returns-in-Half : goal.returns-in-Half
returns-in-Half c =
    let text = c.args.source.now in
    let error = Misspelled (record { line = c.in_ok-reading.reading.line; fault = HalfByte }) in
    let h : IsFaultOf text error = rw c.in-Half.is at c.in_ok-reading.ensures.ok in
    record {
      ok = tt;
      err = h;
      laid_out = λ bytes laid. memory_at_laid_out text bytes error h laid;
      breaks_off = λ misspelling breaks. fault_at_break text misspelling error h breaks;
      was_laid_out = tt;
      was_broken = is_break_from_fault text error h;
    }

pub returns : goal.returns
returns c =
    let all : spelled c.args.source.now ≡ Ok c.in_ok-reading.reading.bytes.items = c.in_ok-reading.ensures.ok ∙ behind-ended _ _ _ c.in_default.not-Half in
    record {
      ok = all;
      err = tt;
      laid_out = λ bytes laid. let e = spelled-laid_out c.args.source.now bytes laid in cc;
      breaks_off = λ misspelling breaks. let e = spelled-breaks_off c.args.source.now misspelling breaks in cc;
      was_laid_out = laid_out_from_spelled _ _ all;
      was_broken = tt;
    }

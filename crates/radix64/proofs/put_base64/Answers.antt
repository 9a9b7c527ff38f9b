-- `put_base64` measures, then writes the letters where they fit.
use Rattle.std.proofs.Common.{sym, ◌∙◌}
use Rattle.digits.specs.PutLaws.{put_fits, put_unfit}
use Rattle.radix64.proofs.put_base64.Goals as goal

pub returns-then-fits : goal.returns-then-fits
returns-then-fits c =
    let both = put_fits c.base64_length.result c.base64_length.ensures c.write_letters.ensures (sym c.fits.ensures ∙ c.if-fits.true) in
    record { value = both.0; out_after = both.1 }

pub returns : goal.returns
returns c =
    let both = put_unfit _ _ _ c.base64_length.result c.base64_length.ensures (sym c.fits.ensures ∙ c.if-fits.false) in
    record { value = both.0; out_after = both.1 }

-- `put_decimal` writes the digits where they were counted to fit, and nothing where not.
use mathlib.Core.Path.{sym, ◌∙◌}
use borrow.Author.Tests.{leb-true}
use Rattle.digits.specs.DigitsLaws.{decimal_counted}
use Rattle.digits.specs.PutLaws.{put_fits, put_unfit}
use Rattle.digits.proofs.decimal.put_decimal.Goals as goal

pub write_digits-requires : goal.write_digits-requires
write_digits-requires c = leb-true _ _ (sym c.fits.ensures ∙ c.if-fits.true)

pub returns-then-fits : goal.returns-then-fits
returns-then-fits c =
    let d = c.decimal_length-places.ensures.value in
    let both = put_fits c.decimal_length-places.result d
    (rw (decimal_counted _ c.args.n d) at c.write_digits.ensures)
    (sym c.fits.ensures ∙ c.if-fits.true) in record { value = both.0; out_after = both.1 }

pub returns : goal.returns
returns c = let both = put_unfit _ _ _ c.decimal_length-places.result c.decimal_length-places.ensures.value (sym c.fits.ensures ∙ c.if-fits.false) in record { value = both.0; out_after = both.1 }

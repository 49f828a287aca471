use Rattle.std.proofs.Common.{ℕ, refl, sym, ◌∙◌, ◌-◌, arith, leb-true, length-set}
use Rattle.columns.proofs.Written.{column_begun, place_written, column_done, fits_less, one_digit}
use Rattle.columns.proofs.write.Goals as goal

pub loop-i-init : goal.loop-i-init
loop-i-init g c =
    record {
      fits = fits_less g.row.D _ c.args.n _ refl refl c.requires.2;
      rest = column_begun _ c.args.at g.row.W _ c.args.n _ _ _ (omega arith) (omega arith) (omega arith) c.digit.ensures refl;
    }

pub tenth-rest-requires : goal.tenth-rest-requires
tenth-rest-requires g c = λ is. one_digit (g.row.D - c.loop-i.i) c.loop-i.left (omega (arith, leb-true _ _ is)) c.loop-i.invariant.fits

pub loop-i-preserved : goal.loop-i-preserved
loop-i-preserved g c =
    record {
      fits = fits_less (g.row.D - c.loop-i.i) _ c.loop-i.left _ (omega arith) c.tenth-rest.ensures c.loop-i.invariant.fits;
      rest = c.loop-i.invariant.rest ∙ place_written _ c.args.at _ _ c.loop-i.left _ _ _ (omega arith) (omega arith) (omega (arith, length-set {A = ℕ})) c.digit_or_space.ensures c.tenth-rest.ensures;
    }

pub returns : goal.returns
returns g c = sym (c.loop-i.invariant.rest ∙ column_done _ _ _ _ (omega arith))

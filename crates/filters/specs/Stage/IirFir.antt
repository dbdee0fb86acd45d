-- The interpolator (iir_fir.rs): a batch is doubled, put behind the eight doubled samples carried, and read by eight taps.
-- Checked against the marked cases. Assumes nothing.
use Rattle.std.specs.Prelude.{ℕ, ◌*◌, List, ◌++◌, ℤ, pos, ◌*ℤ◌, length}
use Rattle.filters.specs.Lists.{carried_on}
use Rattle.fixed.specs.Fixed.{narrowed}
use Rattle.filters.specs.Rom.{silk_resampler_frac_FIR_12}
use Rattle.filters.specs.Reader.{read, mirrored, outputs, sum}
use Rattle.filters.specs.Run.{pass_out, pass_end}
use Rattle.filters.specs.declared.rates.Rates.{Rates}
use Rattle.filters.specs.Stage.Up2Hq.{up2, up2_end}

-- four taps forward for samples 0 to 3 and four backward for 4 to 7, before narrowing; the products are whole
unfoldable pub interpolation : ℕ → List ℤ → ℤ
interpolation fraction buf = sum ◌*ℤ◌ (pos 0) (mirrored silk_resampler_frac_FIR_12 fraction) buf

unfoldable pub interpolated : ℕ → List ℤ → ℤ
interpolated fraction buf = narrowed 15 (interpolation fraction buf)

-- n outputs of a batch xs, from the doubler's words w and the carried samples
unfoldable pub iir_fir : ℕ → ℕ → List ℤ → List ℤ → List ℤ → List ℤ
iir_fir increment n w carried xs = read interpolated increment n (carried ++ up2 w xs)

unfoldable pub iir_fir_carried : List ℤ → List ℤ → List ℤ → List ℤ
iir_fir_carried w carried xs = carried_on 8 carried (up2 w xs)

-- a batch, and a pass over batches of at most 10 ms; the state is the doubler's words and the carried samples
unfoldable pub iir_fir_batch : Rates → List ℤ × List ℤ → List ℤ → List ℤ
iir_fir_batch r s xs = iir_fir r.increment (outputs r (length xs)) s.0 s.1 xs

unfoldable pub iir_fir_next : List ℤ × List ℤ → List ℤ → List ℤ × List ℤ
iir_fir_next s xs = (up2_end s.0 xs, iir_fir_carried s.0 s.1 xs)

unfoldable pub iir_fir_pass : Rates → List ℤ × List ℤ → List ℤ → List ℤ
iir_fir_pass r = pass_out (iir_fir_batch r) iir_fir_next (10 * r.inKhz)

unfoldable pub iir_fir_end : Rates → List ℤ × List ℤ → List ℤ → List ℤ × List ℤ
iir_fir_end r = pass_end iir_fir_next (10 * r.inKhz)

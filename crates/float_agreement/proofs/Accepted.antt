-- What a number in the domain of its kind is: an f32 with a clear sign bit, a size and a proportion finite, a proportion above 0.0. Assumes nothing.
use mathlib.Core.Path.{◌≡◌, refl, ◌∙◌}
use mathlib.Core.Bool.{Bool, true, false, cond, ◌&&◌, false≢true}
use lib.Dec.{T}
use lib.Ieee.{Float, nan, inf, fin, binary32, lt, le, eq, fits, is_nan, of_bits}
use lib.Ieee.Bits.{is_false}
use lib.Ieee.Positive.{positive}
use lib.Ieee.Scale.{finite}
use Rattle.float_laws.specs.Numbers.{zero32, thousandth, thousand, million, infinity}
use Rattle.float_laws.specs.Std.{clear, IsClear}
use Rattle.float_laws.proofs.Domain.{clear-by-bits, finite-of-le, above-zero-of-le}
use Rattle.float_domain.specs.declared.kind.Kind.TheVariants.{Size, Limit, Factor, Proportion}
use Rattle.float_domain.specs.Domain.{sign_clear, in_range, in_size, in_proportion}
use Rattle.float_domain.proofs.NoNan.{le-no-nan}
use Rattle.laws.specs.Tests.{both_true}
use Rattle.float_agreement.specs.Inputs.{IsOf}

-- ---- a number in a range

in-range-clear : (lo x hi : Float) → T (fits binary32 x) → in_range lo x hi ≡ true → clear x ≡ true
in-range-clear lo x hi p h =
    let upper = both_true (le x hi) (le lo x && sign_clear x) h in
    clear-by-bits x p (is_false (is_nan x) (le-no-nan x hi upper.0)) ∙ (both_true (le lo x) (sign_clear x) upper.1).1

in-range-finite : (lo x hi : Float) → T (fits binary32 x) → T (finite hi) → in_range lo x hi ≡ true → T (finite x)
in-range-finite lo x hi p b h =
    finite-of-le x hi (in-range-clear lo x hi p h) b (both_true (le x hi) (le lo x && sign_clear x) h).0

in-range-ge : (lo x hi : Float) → in_range lo x hi ≡ true → le lo x ≡ true
in-range-ge lo x hi h = (both_true (le lo x) (sign_clear x) (both_true (le x hi) (le lo x && sign_clear x) h).1).0

-- ---- a size

million-finite : T (finite million)
unfolding of_bits
million-finite = tt

pub size-clear : (x : Float) → IsOf Size x → IsClear x
size-clear x h = (h.0, in-range-clear zero32 x million h.0 h.1)

pub size-finite : (x : Float) → IsOf Size x → T (finite x)
size-finite x h = in-range-finite zero32 x million h.0 million-finite h.1

-- ---- a limit

clear-of-infinite : (x : Float) → eq x infinity ≡ true → clear x ≡ true
unfolding eq of_bits
clear-of-infinite nan h = absurd (false≢true h)
clear-of-infinite (inf true) h = absurd (false≢true h)
clear-of-infinite (inf false) h = refl
clear-of-infinite (fin s m e) h = absurd (false≢true h)

pub limit-clear : (x : Float) → IsOf Limit x → IsClear x
limit-clear x h = (h.0, go (eq x infinity) refl h.1)
  where
    go : (b : Bool) → eq x infinity ≡ b → cond b true (in_size x) ≡ true → clear x ≡ true
    go true e k = clear-of-infinite x e
    go false e k = in-range-clear zero32 x million h.0 k

-- ---- a proportion

thousand-finite : T (finite thousand)
unfolding of_bits
thousand-finite = tt

thousandth-positive : T (positive thousandth)
unfolding of_bits positive
thousandth-positive = tt

pub proportion-clear : (x : Float) → IsOf Proportion x → IsClear x
proportion-clear x h = (h.0, in-range-clear thousandth x thousand h.0 h.1)

pub proportion-finite : (x : Float) → IsOf Proportion x → T (finite x)
proportion-finite x h = in-range-finite thousandth x thousand h.0 thousand-finite h.1

pub proportion-above : (x : Float) → IsOf Proportion x → lt zero32 x ≡ true
proportion-above x h = above-zero-of-le thousandth x thousandth-positive (in-range-ge thousandth x thousand h.1)

-- ---- a factor

pub factor-clear : (x : Float) → IsOf Factor x → IsClear x
factor-clear x h = (h.0, go (eq x zero32) h.1)
  where
    go : (b : Bool) → cond b (in_range zero32 x zero32) (in_proportion x) ≡ true → clear x ≡ true
    go true k = in-range-clear zero32 x zero32 h.0 k
    go false k = in-range-clear thousandth x thousand h.0 k

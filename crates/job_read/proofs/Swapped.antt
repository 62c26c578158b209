-- A number with its bytes the other way round: it is empty where the number is, and a union may be taken before or after.
use Prim.Native.Nat.{ℕ, zero, suc, ◌+◌, ◌*◌, ◌/◌, ◌%◌, ◌^◌, ◌≤◌, ◌<◌}
use native.Mathlib.Omega.{arith}
use native.Mathlib.Nat.{one-le-pow, pow-succ', mul-le-mul_left, div-lt_iff_lt-mul}
use mathlib.Core.Path.{◌≡◌, refl, sym, ap, ap₂, ◌∙◌}
use lib.Arith.{digits_lt}
use lib.Bits.{bit_or, or_zero_l, or_block, or_shr, or_mod}
use borrow.Author.Tests.{ne_eqb}
use Rattle.std.specs.Int.{w64, swap_bytes}
use Rattle.model.specs.Plan.{is_empty}
use Rattle.job.proofs.Numbers.{pow_bits}
use Rattle.job_read.specs.Swapped.{swapped}

swapped_lt : (w x : ℕ) → swapped w x < 256 ^ w
unfolding swapped
swapped_lt zero x = omega arith
swapped_lt (suc w) x =
    let l : x % 256 < 256 = omega arith in
    omega (arith, digits_lt l (swapped_lt w (x / 256)), pow-succ' 256 w)

pub swapped_or : (w x y : ℕ) → swapped w (bit_or x y) ≡ bit_or (swapped w x) (swapped w y)
unfolding swapped
swapped_or zero x y = sym (or_zero_l 0)
swapped_or (suc w) x y =
    ap₂ (λ b r. b * 256 ^ w + r) (or_mod x y 8) (ap (swapped w) (or_shr x y 8) ∙ swapped_or w (x / 256) (y / 256)) ∙ sym block
  where
    block : bit_or (x % 256 * 256 ^ w + swapped w (x / 256)) (y % 256 * 256 ^ w + swapped w (y / 256))
        ≡ bit_or (x % 256) (y % 256) * 256 ^ w + bit_or (swapped w (x / 256)) (swapped w (y / 256))
    block =
        let r = rw pow_bits at (swapped_lt w (x / 256)) in
        let s = rw pow_bits at (swapped_lt w (y / 256)) in
        rw (pow_bits w) (or_block (8 * w) (x % 256) (y % 256) (swapped w (x / 256)) (swapped w (y / 256)) r s)

swapped-none : (w x : ℕ) → x < 256 ^ w → swapped w x ≡ 0 → x ≡ 0
unfolding swapped
swapped-none zero x h e = omega arith
swapped-none (suc w) x h e =
    let one : 1 ≤ 256 ^ w = one-le-pow w 256 (omega arith) in
    let few : x / 256 < 256 ^ w = (div-lt_iff_lt-mul {k = 256} {x = x} {y = 256 ^ w} (omega arith)).1 (omega (arith, pow-succ' 256 w)) in
    let low : swapped w (x / 256) ≡ 0 = omega arith in
    omega (arith, mul-le-mul_left (x % 256) one, swapped-none w (x / 256) few low)

none-swapped : (w : ℕ) → swapped w 0 ≡ 0
unfolding swapped
none-swapped zero = refl
none-swapped (suc w) = omega (arith, none-swapped w)

pub empty_swapped : (w x : ℕ) → x < 256 ^ w → is_empty (swapped w x) ≡ is_empty x
empty_swapped w zero h = ap is_empty (none-swapped w)
empty_swapped w (suc x) h =
    ne_eqb (swapped w (suc x)) 0 (λ e. omega (arith, swapped-none w (suc x) h e)) ∙ sym (ne_eqb (suc x) 0 (λ e. omega (arith, e)))

-- one byte after the other, and what lies above it
swapped_step : (w x z : ℕ) → swapped (suc w) (x + z * 256) ≡ x % 256 * 256 ^ w + swapped w (x / 256 + z)
unfolding swapped
swapped_step w x z =
    let low : (x + z * 256) % 256 ≡ x % 256 = omega arith in
    let rest : (x + z * 256) / 256 ≡ x / 256 + z = omega arith in
    ap₂ (λ b r. b * 256 ^ w + swapped w r) low rest

swapped-more : (w b x : ℕ) → b < 256 → swapped (suc w) (b + x * 256) ≡ b * 256 ^ w + swapped w x
swapped-more w b x h =
    let low : b % 256 ≡ b = omega arith in
    let rest : b / 256 + x ≡ x = omega arith in
    swapped_step w b x ∙ ap₂ (λ d r. d * 256 ^ w + swapped w r) low rest

swapped_one : (b : ℕ) → b < 256 → swapped 1 b ≡ b
unfolding swapped
swapped_one b h = omega arith

-- the number of four bytes, by each of them
pub swapped_four : (a b c d : ℕ) → a < 256 → b < 256 → c < 256 → d < 256
    → swapped 4 (a + b * 256 + c * 65536 + d * 16777216) ≡ a * 16777216 + b * 65536 + c * 256 + d
swapped_four a b c d ha hb hc hd =
    let x = b + (c + d * 256) * 256 in
    let e : a + b * 256 + c * 65536 + d * 16777216 ≡ a + x * 256 = omega arith in
    ap (swapped 4) e ∙ omega (arith, swapped-more 3 a x ha, swapped-more 2 b (c + d * 256) hb, swapped-more 1 c d hc, swapped_one d hd)

-- the bytes of the lower half, and what stands for the upper half
joined : (x y : ℕ)
    → x % 256 * 256 ^ 7 + (x / 256 % 256 * 256 ^ 6 + (x / 256 / 256 % 256 * 256 ^ 5 + (x / 256 / 256 / 256 % 256 * 256 ^ 4 + y)))
    ≡ swapped 4 x * 2 ^ 32 + y
unfolding swapped
joined x y = sum (x % 256) (x / 256 % 256) (x / 256 / 256 % 256) (x / 256 / 256 / 256 % 256)
  where
    sum : (a b c d : ℕ) → a * 256 ^ 7 + (b * 256 ^ 6 + (c * 256 ^ 5 + (d * 256 ^ 4 + y)))
        ≡ (a * 256 ^ 3 + (b * 256 ^ 2 + (c * 256 ^ 1 + (d * 256 ^ 0 + 0)))) * 2 ^ 32 + y
    sum a b c d = omega arith

-- the number of eight bytes, by its two halves
pub swapped_halves : (x y : ℕ) → x < 2 ^ 32 → swapped 8 (x + y * 2 ^ 32) ≡ swapped 4 x * 2 ^ 32 + swapped 4 y
swapped_halves x y h =
    let e : x + y * 2 ^ 32 ≡ x + y * 2 ^ 24 * 256 = omega arith in
    let f : x / 256 + y * 2 ^ 24 ≡ x / 256 + y * 2 ^ 16 * 256 = omega arith in
    let g : x / 256 / 256 + y * 2 ^ 16 ≡ x / 256 / 256 + y * 2 ^ 8 * 256 = omega arith in
    let past : x / 256 / 256 / 256 / 256 + y ≡ y = omega arith in
    let four = swapped_step 4 (x / 256 / 256 / 256) y ∙ ap (λ r. x / 256 / 256 / 256 % 256 * 256 ^ 4 + swapped 4 r) past in
    let three = ap (swapped 6) g ∙ swapped_step 5 (x / 256 / 256) (y * 2 ^ 8) ∙ ap (λ r. x / 256 / 256 % 256 * 256 ^ 5 + r) four in
    let two = ap (swapped 7) f ∙ swapped_step 6 (x / 256) (y * 2 ^ 16) ∙ ap (λ r. x / 256 % 256 * 256 ^ 6 + r) three in
    ap (swapped 8) e ∙ swapped_step 7 x (y * 2 ^ 24) ∙ ap (λ r. x % 256 * 256 ^ 7 + r) two ∙ joined x (swapped 4 y)

-- the number of eight bytes, by each of them
pub swapped_eight : (a b c d e f g h : ℕ) → a < 256 → b < 256 → c < 256 → d < 256 → e < 256 → f < 256 → g < 256 → h < 256
    → swapped 8 (a + b * 256 ^ 1 + c * 256 ^ 2 + d * 256 ^ 3 + e * 256 ^ 4 + f * 256 ^ 5 + g * 256 ^ 6 + h * 256 ^ 7)
    ≡ a * 256 ^ 7 + b * 256 ^ 6 + c * 256 ^ 5 + d * 256 ^ 4 + e * 256 ^ 3 + f * 256 ^ 2 + g * 256 ^ 1 + h
swapped_eight a b c d e f g h ha hb hc hd he hf hg hh =
    let x6 = g + h * 256 in
    let x5 = f + x6 * 256 in
    let x4 = e + x5 * 256 in
    let x3 = d + x4 * 256 in
    let x2 = c + x3 * 256 in
    let x1 = b + x2 * 256 in
    let x = a + b * 256 ^ 1 + c * 256 ^ 2 + d * 256 ^ 3 + e * 256 ^ 4 + f * 256 ^ 5 + g * 256 ^ 6 + h * 256 ^ 7 in
    let same : x ≡ a + x1 * 256 = omega arith in
    ap (swapped 8) same
    ∙ omega (
      arith,
      swapped-more 7 a x1 ha,
      swapped-more 6 b x2 hb,
      swapped-more 5 c x3 hc,
      swapped-more 4 d x4 hd,
      swapped-more 3 e x5 he,
      swapped-more 2 f x6 hf,
      swapped-more 1 g h hg,
      swapped_one h hh,
    )

-- it is std's number of the swapped bytes
pub swapped_is : (x : ℕ) → swap_bytes w64 x ≡ swapped 8 x
unfolding swapped
swapped_is x = omega arith

-- swapped twice it is the same
pub swapped_back : (x : ℕ) → x < 2 ^ 64 → swapped 8 (swap_bytes w64 x) ≡ x
swapped_back x h =
    let byte : ℕ → ℕ = λ k. x / 256 ^ k % 256 in
    let small : (k : ℕ) → byte k < 256 = λ k. omega arith in
    let same : swap_bytes w64 x
    ≡ byte 7 + byte 6 * 256 ^ 1 + byte 5 * 256 ^ 2 + byte 4 * 256 ^ 3 + byte 3 * 256 ^ 4 + byte 2 * 256 ^ 5 + byte 1 * 256 ^ 6 + byte 0 * 256 ^ 7 =
    omega arith in
    ap (swapped 8) same
    ∙ swapped_eight (byte 7) (byte 6) (byte 5) (byte 4) (byte 3) (byte 2) (byte 1) (byte 0)
    (small 7) (small 6) (small 5) (small 4) (small 3) (small 2) (small 1) (small 0)
    ∙ omega arith

-- Where a bitlist ends: its delimiter is the highest 1 bit of its number.
use Rattle.std.proofs.Common.{ℕ, zero, suc, ◌+◌, ◌*◌, ◌^◌, ◌<◌, ◌≤◌, ◌≡◌, Bool, leb, ltb, ◌&&◌, List, [], ◌∷◌, length, refl, sym, ap, ◌∙◌, arith, pow-suc, pow-add, mul-le-mul_left}
use Rattle.std.proofs.lemmas.Bool.{leb-true, ltb-true, lt-ltb, and_parts, agree_below_at}
use Rattle.ssz_bytes.specs.Bytes.{IsBytes, le_number}
use Rattle.ssz_bytes.specs.Faults.{last_after, highest_bit}
use Rattle.ssz_bytes.proofs.Bits.{HasTop, power_of_bytes}

-- the number lies between its last byte and the next, at that byte's place
pub record IsLedBy (unit last n : ℕ) : Type 0 where
  pub low : unit * last ≤ n
  pub high : n < unit * (last + 1)

led_by_more : (unit wider last byte n : ℕ) → wider ≡ unit * 256 → byte < 256 → IsLedBy unit last n
    → IsLedBy wider last (byte + 256 * n)
led_by_more unit wider last byte n e h led = record {
  low = rw e (omega (arith, led.low));
  high = rw e (omega (arith, led.high));
}

pub last-leads : (byte : ℕ) (bytes : List ℕ) → byte < 256 → IsBytes bytes
    → IsLedBy (256 ^ length bytes) (last_after byte bytes) (le_number (byte ∷ bytes))
last-leads byte [] h bytes_fit = record { low = omega arith; high = omega arith }
last-leads byte (b ∷ bytes) h bytes_fit =
    led_by_more (256 ^ length bytes) (256 ^ length (b ∷ bytes)) (last_after b bytes) byte
    (le_number (b ∷ bytes)) (pow-suc 256 (length bytes)) h
    (last-leads b bytes (bytes_fit zero) (λ i. bytes_fit (suc i)))

pub last_after_lt : (byte : ℕ) (bytes : List ℕ) → byte < 256 → IsBytes bytes
    → last_after byte bytes < 256
last_after_lt byte [] h bytes_fit = h
last_after_lt byte (b ∷ bytes) h bytes_fit =
    last_after_lt b bytes (bytes_fit zero) (λ i. bytes_fit (suc i))

-- the highest 1 bit of each byte, tried at all
is_top : ℕ → Bool
is_top byte = leb (2 ^ highest_bit byte) byte && ltb byte (2 ^ (highest_bit byte + 1)) && ltb
    (highest_bit byte) 8

is_top_at : (byte : ℕ) → byte < 256 → is_top byte ≡ ltb 0 byte
unfolding is_top
is_top_at byte h = agree_below_at is_top (ltb 0) 256 byte refl h

pub record IsHighest (place byte : ℕ) : Type 0 where
  pub low : 2 ^ place ≤ byte
  pub high : byte < 2 ^ (place + 1)
  pub within : place < 8

pub highest_bit-is_highest : (byte : ℕ) → byte < 256 → 0 < byte → IsHighest (highest_bit byte) byte
unfolding is_top
highest_bit-is_highest byte h pos =
    let all = and_parts _ _ (is_top_at byte h ∙ lt-ltb 0 byte pos) in
    let both = and_parts _ _ all.0 in
    record { low = leb-true _ _ both.0; high = ltb-true _ _ both.1; within = ltb-true _ _ all.1 }

pub HasTop-led : (count place last n : ℕ) → IsLedBy (256 ^ count) last n → IsHighest place last
    → HasTop (8 * count + place) n
HasTop-led count place last n led top =
    let unit = 256 ^ count in
    let low_power : 2 ^ (8 * count + place) ≡ unit * 2 ^ place =
    pow-add 2 (8 * count) place ∙ ap (λ n. n * 2 ^ place) (sym (power_of_bytes count)) in
    let high_power : 2 ^ (8 * count + place + 1) ≡ unit * 2 ^ (place + 1) =
    ap (λ n. 2 ^ n) (omega arith) ∙ pow-add 2 (8 * count) (place + 1)
    ∙ ap (λ n. n * 2 ^ (place + 1)) (sym (power_of_bytes count)) in
    record {
      low = omega (arith, low_power, led.low, mul-le-mul_left unit top.low);
      high = omega (arith, high_power, led.high, mul-le-mul_left unit top.high);
    }

-- where its last byte is not 0, the number of the bytes has its highest
-- 1 bit at the bitlist's length
pub HasTop-bitlist : (byte : ℕ) (bytes : List ℕ) → byte < 256 → IsBytes bytes
    → 0 < last_after byte bytes
    → HasTop (8 * length bytes + highest_bit (last_after byte bytes)) (le_number (byte ∷ bytes))
HasTop-bitlist byte bytes h fit pos =
    HasTop-led (length bytes) (highest_bit (last_after byte bytes)) (last_after byte bytes)
    (le_number (byte ∷ bytes)) (last-leads byte bytes h fit)
    (highest_bit-is_highest (last_after byte bytes) (last_after_lt byte bytes h fit) pos)

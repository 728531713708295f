-- Digits, and the number that they write. Assumes nothing.
use Rattle.std.proofs.Common.{◌≡◌, ℕ, ◌+◌, ◌-◌, ◌*◌, ◌^◌, ◌<◌, ◌≤◌, List, length, get_or, take, drop, sym, ap, pow-suc, add-one, arith, lit<}
use native.Mathlib.Nat.{pow-le-pow_right}
use Rattle.std.specs.List.{prefix_len}
use Rattle.std.proofs.lemmas.List.{drop-drop}
use Rattle.std.proofs.lemmas.List.Sums.{fold_more}
use Rattle.scan.specs.Reading.{digit, value, digits_of}

pub value_more : (xs : List ℕ) (i v : ℕ) → i < length xs → v ≡ value (take i xs) → v * 10 + (get_or xs i 0 - 48) ≡ value (take (i + 1) xs)
value_more xs i v l e = rw e (sym (fold_more (λ v d. v * 10 + (d - 48)) 0 xs i 0 l))

pub one_byte_more : (v b n : ℕ) → b < 256 → v < 256 ^ n → v * 10 + (b - 48) < 256 ^ (n + 1)
one_byte_more v b n d l = let more : 256 ^ (n + 1) ≡ 256 ^ n * 256 = rw add-one (pow-suc 256 n) in omega arith

pub five_bytes : (n v : ℕ) → n ≤ 5 → v < 256 ^ n → v < 256 ^ 5
five_bytes n v h l = let p : 256 ^ n ≤ 256 ^ 5 = pow-le-pow_right {n = 256} (lit< tt) {i = n} {j = 5} h in omega arith

pub digits_counted : (xs : List ℕ) (n : ℕ) → n ≡ prefix_len digit xs → take n xs ≡ digits_of xs
unfolding digits_of
digits_counted xs n e = ap (λ k. take k xs) e

pub drop_one_more : (bytes : List ℕ) (at : ℕ) → drop 1 (drop at bytes) ≡ drop (at + 1) bytes
drop_one_more bytes at = drop-drop 1 at bytes

-- Powers by squaring, modulo a number.
use Rattle.std.proofs.Common.{◌≡◌, ℕ, refl, ◌+◌, ◌*◌, ◌/◌, ◌%◌, ◌^◌, sym, ap, ◌∙◌, arith, add-one}
use Rattle.std.proofs.Math.Nat.{pow-suc}
use Rattle.std.proofs.lemmas.Nat.{pow-add, mul-pow, mul-mod_first, pow-mod}

squared : (b k : ℕ) → (b * b) ^ k ≡ b ^ (k + k)
squared b k = mul-pow b b k ∙ sym (pow-add b k k)

one_more : (b n : ℕ) → b ^ n * b ≡ b ^ (n + 1)
one_more b n = rw (add-one, pow-suc) refl

pub power_even : (b e m : ℕ) → e % 2 ≡ 0 → (b * b % m) ^ (e / 2) % m ≡ b ^ e % m
power_even b e m h =
    let twice : e / 2 + e / 2 ≡ e = omega (arith, h) in
    pow-mod (b * b) (e / 2) m ∙ ap (λ p. p % m) (squared b (e / 2) ∙ ap (λ k. b ^ k) twice)

pub power_odd : (b e m : ℕ) → e % 2 ≡ 1 → ((b * b % m) ^ (e / 2) % m * b) % m ≡ b ^ e % m
power_odd b e m h =
    let twice : e / 2 + e / 2 + 1 ≡ e = omega (arith, h) in
    ap (λ p. (p * b) % m) (pow-mod (b * b) (e / 2) m)
    ∙ mul-mod_first ((b * b) ^ (e / 2)) b m
    ∙ ap (λ p. p % m) (ap (λ p. p * b) (squared b (e / 2)) ∙ one_more b (e / 2 + e / 2) ∙ ap (λ k. b ^ k) twice)

-- The bytes of a statement's Based tokens.
use Rattle.std.proofs.Common.{◌≡◌, ◌-◌, List, ℕ, take, drop, subst}
use Rattle.std.specs.List.{Contains, All}
use Rattle.std.proofs.lemmas.List.Elements.{All-weaker}
use Rattle.vvp_lex.specs.declared.types.Spanned.{Spanned}
use Rattle.vvp_lex.specs.declared.types.Stmt.{Stmt}
use Rattle.vvp_lex.specs.declared.types.Token.{Token}
use Rattle.vvp_lex.specs.declared.types.Token.TheVariants as token
use Rattle.vvp_lex.specs.Longest.{IsToken, IsLongest, IsBased, AreLongest}
use Rattle.vvp_lex.specs.Place.{span_of, bytes_of}
use Rattle.vvp_lex.specs.Statement.{statements_of, tokens_of}
use Rattle.vvp_lex.proofs.PlaceLemmas.{tokens_longest}

-- the bytes of a token that is a Based are one
abbrev pub IsBasedOf : List ℕ → Spanned → Type 0
IsBasedOf file found = found.token ≡ token.Based → IsBased (bytes_of file (span_of found))

-- so are those of all tokens of a statement
pub All-based : (file : List ℕ) (s : Stmt) → Contains (statements_of file) s → All (IsBasedOf file) (tokens_of file s)
unfolding AreLongest
All-based file s given =
    All-weaker (λ found. IsLongest (drop found.from file) found.token (found.to - found.from)) (IsBasedOf file) of_longest (tokens_of file s) (tokens_longest file s given)
  where
    of_longest : (found : Spanned) → IsLongest (drop found.from file) found.token (found.to - found.from) → IsBasedOf file found
    of_longest found longest is =
        subst (λ (t : Token). IsToken t (take (found.to - found.from) (drop found.from file))) is longest.fits

-- the words of statements that are known and not supported
use Rattle.std.specs.Prelude.{ℕ, Bool, ◌||◌, List, [], ◌∷◌, codes}
use Rattle.vvp_lex.specs.Words.{is_one, begins_with_one}

unfoldable pub words : List (List ℕ)
words =
    codes ".var/real" ∷ codes ".var/str" ∷ codes ".var/2s" ∷ codes ".var/2u" ∷ codes ".net/real" ∷ codes ".array/real" ∷ codes ".array/str" ∷ codes ".array/2s" ∷ codes ".array/2u" ∷ codes ".array/port" ∷ []

unfoldable pub beginnings : List (List ℕ)
beginnings =
    codes ".udp" ∷ codes ".dff" ∷ codes ".latch" ∷ codes ".ufunc" ∷ codes ".modpath" ∷ codes ".island" ∷ codes ".import" ∷ codes ".export" ∷ codes ".port" ∷ codes ".tran" ∷ codes ".cast" ∷ codes ".class" ∷ codes ".sfunc" ∷ codes ".substitute" ∷ codes ".abs" ∷ codes ".alias" ∷ []

-- the word is listed, or begins as one that is
unfoldable pub is_unsupported : List ℕ → Bool
is_unsupported word = is_one word words || begins_with_one word beginnings

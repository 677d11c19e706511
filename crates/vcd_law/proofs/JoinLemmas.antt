-- Written words, commands and entries, one list after another.
use Rattle.std.proofs.Common.{◌≡◌, ℕ, List, [], ◌∷◌, ◌++◌, refl, sym, ap, subst, ◌∙◌, append_assoc}
use Rattle.vcd_read.specs.Grammar.{AreCommands, AreEntries}
use Rattle.vcd_law.specs.Words.{Written, AreWritten, text_of, words_of}
use Rattle.vcd_law.proofs.Known.{Header, Body}

pub text-append : (ws vs : List Written) → text_of (ws ++ vs) ≡ text_of ws ++ text_of vs
text-append [] vs = refl
text-append (w ∷ ws) vs = ap (λ t. w.word ++ (w.after ∷ t)) (text-append ws vs) ∙ sym (append_assoc w.word (w.after ∷ text_of ws) (text_of vs))

pub words-append : (ws vs : List Written) → words_of (ws ++ vs) ≡ words_of ws ++ words_of vs
words-append [] vs = refl
words-append (w ∷ ws) vs = ap (λ t. w.word ∷ t) (words-append ws vs)

pub are-append : (ws vs : List Written) → AreWritten ws → AreWritten vs → AreWritten (ws ++ vs)
are-append [] vs h k = k
are-append (w ∷ ws) vs h k = (h.0, are-append ws vs h.1 k)

pub commands-append : (xs ys : List (List (List ℕ))) (a b c : Header) → AreCommands xs a b → AreCommands ys b c → AreCommands (xs ++ ys) a c
commands-append [] ys a b c h k = subst (λ (header : Header). AreCommands ys header c) h k
commands-append (x ∷ xs) ys a b c (inside, middle, first, rest) k = (inside, middle, first, commands-append xs ys middle b c rest k)

pub entries-append : (header : Header) (xs ys : List (List (List ℕ))) (a b c : Body) → AreEntries header xs a b → AreEntries header ys b c → AreEntries header (xs ++ ys) a c
entries-append header [] ys a b c h k = subst (λ (body : Body). AreEntries header ys body c) h k
entries-append header (x ∷ xs) ys a b c (middle, first, rest) k = (middle, first, entries-append header xs ys middle b c rest k)

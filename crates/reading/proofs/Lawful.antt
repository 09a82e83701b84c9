-- The laws of reading. Assumes nothing.
use Rattle.std.proofs.Common.{◌≡◌, ℕ, ◌+◌, Bool, true, false, ◌&&◌, eqb, leb, List, [], ◌∷◌, map, length, Some, None, Option, sym, refl, ap, ◌∙◌, inl, inr, lit<}
use lib.ListN.{length-map}
use Rattle.std.specs.Char.{to_ascii_lowercase}
use Rattle.lexer.specs.Tokens.{tokens_from}
use Rattle.lexer.proofs.Alike.{eqb_lower, code_again, tokens_alike}
use Rattle.forms.specs.declared.said.Line.{Line}
use Rattle.sums.specs.Sums.{Sum}
use Rattle.forms.specs.Forms.{Named, form_of, line_at}
use Rattle.reading.specs.Lines.{lines_of, by_end, all_short, limits}
use Rattle.reading.specs.Reading.{Text, lines, too_large, bad_line, or_bad, read_lines, by_limits, read_text}
use Rattle.reading.specs.Laws.{EitherCase, AnyComment, EachSays, FirstBad, LineByLine}

-- Comments

pub any_comment_lem : AnyComment
any_comment_lem i line comment = ap (λ s. form_of (tokens_from 0 i s)) (code_again line comment)

-- Cases of letters

end_lower : (b : Bool) (c : ℕ) (ls : List (List ℕ)) → by_end b (to_ascii_lowercase c) (map (map to_ascii_lowercase) ls) ≡ map (map to_ascii_lowercase) (by_end b c ls)
end_lower true c ls = refl
end_lower false c [] = refl
end_lower false c (l ∷ ls) = refl

lines_lower : (s : List ℕ) → lines_of (map to_ascii_lowercase s) ≡ map (map to_ascii_lowercase) (lines_of s)
unfolding lines_of
lines_lower [] = refl
lines_lower (c ∷ cs) = (λ j. by_end (eqb_lower 10 c (lit< tt) j) (to_ascii_lowercase c) (lines_lower cs j)) ∙ end_lower (eqb c 10) c (lines_of cs)

short_lower : (ls : List (List ℕ)) → all_short (map (map to_ascii_lowercase) ls) ≡ all_short ls
short_lower [] = refl
short_lower (l ∷ ls) = λ j. leb (length-map l to_ascii_lowercase j) 512 && short_lower ls j

limits_lower : (s : List ℕ) → limits (map to_ascii_lowercase s) ≡ limits s
limits_lower s =
    let few = ap length (lines_lower s) ∙ length-map (lines_of s) (map to_ascii_lowercase) in
    let short = ap all_short (lines_lower s) ∙ short_lower (lines_of s) in
    λ j. leb (length-map s to_ascii_lowercase j) 65536 && (leb (few j) 2000 && short j)

read_lower : (n i : ℕ) (ls : List (List ℕ)) → read_lines n i (map (map to_ascii_lowercase) ls) ≡ read_lines n i ls
unfolding read_lines
read_lower n i [] = refl
read_lower n i (l ∷ ls) = (λ j. or_bad (form_of (tokens_alike i l j)) n (λ u. read_lines (n + 1) (i + length-map l to_ascii_lowercase j + 1) (map (map to_ascii_lowercase) ls))) ∙ ap (λ t. or_bad (line_at i l) n (λ u. t)) (read_lower (n + 1) (i + length l + 1) ls)

by_limits_lem : (b : Bool) (s : List ℕ) → by_limits b (map to_ascii_lowercase s) ≡ by_limits b s
by_limits_lem false s = refl
by_limits_lem true s = ap (read_lines 1 0) (lines_lower s) ∙ read_lower 1 0 (lines_of s)

text_lower : (s : List ℕ) → read_text (map to_ascii_lowercase s) ≡ read_text s
text_lower s = ap (λ b. by_limits b (map to_ascii_lowercase s)) (limits_lower s) ∙ by_limits_lem (limits s) s

pub either_case_lem : EitherCase
either_case_lem s t e = sym (text_lower s) ∙ ap read_text e ∙ text_lower t

-- Line by line

said_by_lem : (i : ℕ) (l : List ℕ) (ls : List (List ℕ)) (o : Option (Line Sum Named)) (n : ℕ) (t : Text) (ms : List (Line Sum Named)) → line_at i l ≡ o → ((us : List (Line Sum Named)) → t ≡ lines us → EachSays (i + length l + 1) ls us) → or_bad o n (λ u. t) ≡ lines ms → EachSays i (l ∷ ls) ms
said_by_lem i l ls None n t ms e h f = absurd (cc)
said_by_lem i l ls (Some m) n (lines us) [] e h f = absurd (cc)
said_by_lem i l ls (Some m) n (lines us) (k ∷ ks) e h f =
    let a : m ≡ k = cc in
    let b : us ≡ ks = cc in
    (e ∙ ap (λ x. Some x) a, h ks (ap lines b))
said_by_lem i l ls (Some m) n too_large ms e h f = absurd (cc)
said_by_lem i l ls (Some m) n (bad_line k) ms e h f = absurd (cc)

each_says : (n i : ℕ) (ls : List (List ℕ)) (ms : List (Line Sum Named)) → read_lines n i ls ≡ lines ms → EachSays i ls ms
unfolding read_lines
each_says n i [] [] e = tt
each_says n i [] (m ∷ ms) e = absurd (cc)
each_says n i (l ∷ ls) ms e = said_by_lem i l ls (line_at i l) n (read_lines (n + 1) (i + length l + 1) ls) ms refl (λ us f. each_says (n + 1) (i + length l + 1) ls us f) e

all_read : (n i : ℕ) (ls : List (List ℕ)) (ms : List (Line Sum Named)) → EachSays i ls ms → read_lines n i ls ≡ lines ms
unfolding read_lines
all_read n i [] [] h = refl
all_read n i [] (m ∷ ms) h = absurd h
all_read n i (l ∷ ls) [] h = absurd h
all_read n i (l ∷ ls) (m ∷ ms) h = λ j. or_bad (h.0 j) n (λ u. all_read (n + 1) (i + length l + 1) ls ms h.1 j)

bad_by : (n i : ℕ) (l : List ℕ) (ls : List (List ℕ)) (o : Option (Line Sum Named)) (t : Text) (k : ℕ) → line_at i l ≡ o → (t ≡ bad_line k → FirstBad (n + 1) (i + length l + 1) ls k) → or_bad o n (λ u. t) ≡ bad_line k → FirstBad n i (l ∷ ls) k
bad_by n i l ls None t k e h f = let a : k ≡ n = cc in inl (e, a)
bad_by n i l ls (Some m) (lines us) k e h f = absurd (cc)
bad_by n i l ls (Some m) too_large k e h f = absurd (cc)
bad_by n i l ls (Some m) (bad_line q) k e h f = inr (m, (e, h f))

first_bad_lem : (n i : ℕ) (ls : List (List ℕ)) (k : ℕ) → read_lines n i ls ≡ bad_line k → FirstBad n i ls k
unfolding read_lines
first_bad_lem n i [] k e = absurd (cc)
first_bad_lem n i (l ∷ ls) k e = bad_by n i l ls (line_at i l) (read_lines (n + 1) (i + length l + 1) ls) k refl (first_bad_lem (n + 1) (i + length l + 1) ls k) e

says_by : (b : Bool) (s : List ℕ) (ms : List (Line Sum Named)) → by_limits b s ≡ lines ms → EachSays 0 (lines_of s) ms
says_by false s ms e = absurd (cc)
says_by true s ms e = each_says 1 0 (lines_of s) ms e

refused_by : (b : Bool) (s : List ℕ) (k : ℕ) → by_limits b s ≡ bad_line k → FirstBad 1 0 (lines_of s) k
refused_by false s k e = absurd (cc)
refused_by true s k e = first_bad_lem 1 0 (lines_of s) k e

pub line_by_line_lem : LineByLine
line_by_line_lem = record {
  says = λ s ms e. says_by (limits s) s ms e;
  read = λ s ms fits h. ap (λ b. by_limits b s) fits ∙ all_read 1 0 (lines_of s) ms h;
  refused = λ s k e. refused_by (limits s) s k e;
}

-- Worked cases of the texts of scripts.
use Rattle.std.proofs.Common.{◌≡◌, [], ◌∷◌, Ok, Err, refl}
use Rattle.std.specs.Prelude.{codes}
use Rattle.sc_value.specs.declared.ids.Place.TheVariants.{Back, To}
use Rattle.sc_terms.specs.declared.steps.Line.TheVariants as lines
use Rattle.sc_tokens.specs.Cuts.{before, after, onto_first, pieces}
use Rattle.sc_tokens.specs.Hosts.{begins}
use Rattle.sc_tokens.specs.Numbers.{is_digits, with_digit, number_in}
use Rattle.sc_script.specs.ScriptTexts.{is_plain, decimal_upto, connection_of, all_four, ip_of, address_of, address_in, place_of, one_word, tick_line, lost_line, two_words, app_of, turn_line, drop_line, three_words, is_feed, incoming, size_of, alone, line_of, is_end, row_with, row_by, row_at, moment_after, with_first, with_later_lines as followed, lines_in, script_of}

-- bytes with a line feed among them, and every row
every_row : script_of (codes "in c1 3\na\nb\ntick 5\nturn 0 1\nlost 127.0.0.1:5060\ndrop 0 1\nrun\nend\n")
    ≡ Ok (lines.In (Back 1) (codes "a\nb") ∷ lines.Tick 5 ∷ lines.Turn (record { host = 0; serial = 1 }) ∷ lines.Lost (To (127 ∷ 0 ∷ 0 ∷ 1 ∷ []) 5060) ∷ lines.Drop (record { host = 0; serial = 1 }) ∷ lines.Run ∷ lines.End ∷ [])
unfolding before after onto_first pieces is_digits with_digit number_in begins is_plain decimal_upto connection_of all_four ip_of address_of address_in place_of one_word tick_line lost_line two_words app_of turn_line drop_line three_words is_feed incoming size_of alone line_of is_end row_with row_by row_at moment_after with_first followed lines_in script_of
every_row = refl

-- the moment goes back
goes_back : script_of (codes "tick 5\ntick 4\nend\n") ≡ Err (record { at = 7; kind = 5 })
unfolding before after onto_first pieces is_digits with_digit number_in begins is_plain decimal_upto connection_of all_four ip_of address_of address_in place_of one_word tick_line lost_line two_words app_of turn_line drop_line three_words is_feed incoming size_of alone line_of is_end row_with row_by row_at moment_after with_first followed lines_in script_of
goes_back = refl

-- of a number and a place that are wrong the number is told
number_first : script_of (codes "run\nin c0 01\nend\n") ≡ Err (record { at = 4; kind = 2 })
unfolding before after onto_first pieces is_digits with_digit number_in begins is_plain decimal_upto connection_of all_four ip_of address_of address_in place_of one_word tick_line lost_line two_words app_of turn_line drop_line three_words is_feed incoming size_of alone line_of is_end row_with row_by row_at moment_after with_first followed lines_in script_of
number_first = refl

-- a last line without line feed, and bytes after `end`
no_end : script_of (codes "run\nend") ≡ Err (record { at = 7; kind = 6 })
unfolding before after onto_first pieces is_digits with_digit number_in begins is_plain decimal_upto connection_of all_four ip_of address_of address_in place_of one_word tick_line lost_line two_words app_of turn_line drop_line three_words is_feed incoming size_of alone line_of is_end row_with row_by row_at moment_after with_first followed lines_in script_of
no_end = refl

goes_on : script_of (codes "end\nrun\n") ≡ Err (record { at = 4; kind = 6 })
unfolding before after onto_first pieces is_digits with_digit number_in begins is_plain decimal_upto connection_of all_four ip_of address_of address_in place_of one_word tick_line lost_line two_words app_of turn_line drop_line three_words is_feed incoming size_of alone line_of is_end row_with row_by row_at moment_after with_first followed lines_in script_of
goes_on = refl

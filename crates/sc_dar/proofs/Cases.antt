-- Worked cases: the tables of the examples, and a refusal of each kind.
use Rattle.std.proofs.Common.{◌≡◌, ℕ, true, Some, None, Result, Ok, Err, List, [], ◌∷◌, refl, length}
use Rattle.std.specs.Prelude.{codes, map, nat_lt}
use Rattle.std.specs.Fmt.{digits}
use Rattle.sc_tokens.specs.Tokens.{is_token_byte, is_blank}
use Rattle.sc_tokens.specs.Names.{same_name}
use Rattle.sc_value.specs.declared.ids.Region.TheVariants.{Originating, Terminating, Neutral}
use Rattle.sc_value.specs.declared.parts.Uri.TheVariants.{Sip}
use Rattle.sc_terms.specs.declared.settings.Dar.{Dar}
use Rattle.sc_terms.specs.declared.settings.Modifier.TheVariants.{Route, RouteBack, NoRoute}
use Rattle.sc_tokens.specs.Bytes.{Bytes, is_host_byte, is_scheme_byte, is_mark, is_param_sign, is_param_byte, is_closed, is_open}
use Rattle.sc_tokens.specs.Cuts.{has, before, after, onto_first, pieces}
use Rattle.sc_tokens.specs.Hosts.{is_host_name, begins, is_host, host_len}
use Rattle.sc_tokens.specs.Quoted.{token_end}
use Rattle.sc_tokens.specs.UriTokens.{is_param_name, is_param_value, is_scheme, sip_scheme}
use Rattle.sc_syntax.specs.UriParts.{then_read as then_read_uri, port_in, is_port_start, sent_at, param_at, params_in, params_at, headers_at}
use Rattle.sc_syntax.specs.Uris.{user_in, behind_user, sent_in, params_text_in, sip_behind, sip_at, other_of, uri_behind, uri_of}
use Rattle.sc_grammar.specs.Written.{scheme, ended_text, port_text, params_text, param_text, signed_text, sip_uri_text, uri_text}
use Rattle.sc_dar.specs.WrittenTables.{region_text, modifier_text, route_text, between, app_text, tuple_front, tuple_back, tuple_text, lead, tuples_text, list_text, dar_text}
use Rattle.sc_dar.specs.Lines.{drop_blanks, is_blank_text, ends, without_last, without_cr, lines_by_lf as ended, rows, onto_next, before_lines, lines_of_rows as joined, lines, is_comment}
use Rattle.sc_dar.specs.Tuples.{TupleTexts, then_read, parts, behind, before_quote as closed, text_in_quotes as quoted, is_closing, behind_tuple, is_parted, tuple_before_comma as parted, opening, without_quotes as unquoted, region_of, modifier_of, sip_route, without_brackets as unbracketed, route_of, tuple_of, tuple_within as counted, tuple_at, tuples_in}
use Rattle.sc_terms.specs.RoutingTables.{is_listed}
use Rattle.sc_dar.specs.Tables.{Fault, has_separator, list_in, list_of, then_line, lists_with as judged, table_with, table_of}

abbrev names : List Bytes
names = codes "a0" ∷ codes "a1" ∷ codes "a2" ∷ []

-- a table of two methods
abbrev table : Dar
table = record {
  lists =
      record {
        method = codes "INVITE";
        tuples =
            record { app = 0; subscriber = codes "DAR:From"; region = Neutral; route = None; modifier = NoRoute }
            ∷ record { app = 1; subscriber = codes "bob"; region = Terminating; route = Some (record { display = None; uri = Sip (record { user = None; host = codes "h"; port = None; params = record { name = codes "lr"; value = None } ∷ []; headers = None }); params = [] }); modifier = RouteBack }
            ∷ [];
      }
      ∷ record { method = codes "BYE"; tuples = record { app = 2; subscriber = []; region = Originating; route = None; modifier = Route } ∷ [] }
      ∷ [];
}

-- a comment, a joined line, a CR, a route with brackets and a way back, and blanks round each sign
reads_table : table_of (codes "  # routes\nINVITE = (\"a0\" ,\"DAR:From\",\"NEUTRAL\",\"\",\"NO_ROUTE\",\"0\"),\\\r\n  ( \"a1\", \"bob\", \"TERMINATING\", \"<sip:h;lr>\", \"ROUTE_BACK\", \"1\" ) \n\nBYE:(\"a2\",\"\",\"ORIGINATING\",\"\",\"ROUTE\",\"0\")") names ≡ Ok table
unfolding digits table_of table_with judged then_line list_of list_in is_listed has_separator tuples_in tuple_at counted tuple_of route_of unbracketed sip_route modifier_of region_of unquoted parted is_parted behind_tuple opening is_closing quoted closed behind parts then_read is_comment lines joined before_lines onto_next rows ended without_cr without_last ends is_blank_text drop_blanks uri_of uri_behind other_of sip_at sip_behind params_text_in sent_in behind_user user_in sip_scheme is_scheme headers_at params_at params_in param_at is_param_value is_param_name sent_at is_port_start port_in then_read_uri token_end host_len is_host begins is_host_name pieces onto_first after before has is_open is_closed is_param_byte is_param_sign is_mark is_scheme_byte is_host_byte same_name is_blank is_token_byte
reads_table = refl

-- what a text is refused by: its line and its kind
abbrev told : Result Dar Fault → List ℕ
told (Ok dar) = []
told (Err fault) = fault.line ∷ fault.kind ∷ []

refuses : map (λ text. told (table_of text names)) (
    codes "INVITE (\"a\")"
    ∷ codes " INVITE: (\"a0\",\"s\",\"NEUTRAL\",\"\",\"NO_ROUTE\",\"0\")"
    ∷ codes "! none\nINVITE:"
    ∷ codes "INVITE: (\"a0\",\"s\",\"NEUTRAL\",\"\",\"NO_ROUTE\",\"0\"),"
    ∷ codes "INVITE: (\"a0\",\"s\",\"NEUTRAL\",\"\",\"NO_ROUTE\",\"0\")\\"
    ∷ codes "\n\\\nINVITE: (\"a0\",\"s\",\"neutral\",\"\",\"\",\"0\")"
    ∷ codes "INVITE: (\"a0\",\"s\",\"NEUTRAL\",\"\",\"\",\"1\")"
    ∷ codes "INVITE: (\"b\",\"s\",\"NEUTRAL\",\"\",\"ROUTE\",\"00\")"
    ∷ codes "INVITE: (\"b\",\"s\",\"NEUTRAL\",\"h\",\"ROUTE\",\"0\")"
    ∷ codes "INVITE: (\"a0\",\"s\",\"NEUTRAL\",\" sip:h\",\"ROUTE\",\"0\")"
    ∷ codes "INVITE: (\"a0\",\"s\",\"NEUTRAL\",\"tel:1\",\"ROUTE\",\"0\")"
    ∷ codes "BYE: (\"a0\",\"s\",\"NEUTRAL\",\"\",\"ROUTE\",\"0\")\nBYE: ()"
    ∷ codes "BYE: (\"a0\",\"s\",\"NEUTRAL\",\"\",\"ROUTE\",\"0\")?"
    ∷ codes "BYE: (\"a0\",\"s\",\"NEUTRAL\",\"\",\"BAD\",\"0\") (\"a0\",\"s\",\"NEUTRAL\",\"\",\"ROUTE\",\"1\")"
    ∷ []) ≡ (1 ∷ 1 ∷ []) ∷ (1 ∷ 1 ∷ []) ∷ (2 ∷ 2 ∷ []) ∷ (1 ∷ 2 ∷ []) ∷ (1 ∷ 2 ∷ []) ∷ (2 ∷ 3 ∷ []) ∷ (1 ∷ 4 ∷ []) ∷ (1 ∷ 5 ∷ []) ∷ (1 ∷ 6 ∷ []) ∷ (1 ∷ 7 ∷ []) ∷ (1 ∷ 7 ∷ []) ∷ (2 ∷ 10 ∷ []) ∷ (1 ∷ 2 ∷ []) ∷ (1 ∷ 4 ∷ []) ∷ []
unfolding digits table_of table_with judged then_line list_of list_in is_listed has_separator tuples_in tuple_at counted tuple_of route_of unbracketed sip_route modifier_of region_of unquoted parted is_parted behind_tuple opening is_closing quoted closed behind parts then_read is_comment lines joined before_lines onto_next rows ended without_cr without_last ends is_blank_text drop_blanks uri_of uri_behind other_of sip_at sip_behind params_text_in sent_in behind_user user_in sip_scheme is_scheme headers_at params_at params_in param_at is_param_value is_param_name sent_at is_port_start port_in then_read_uri token_end host_len is_host begins is_host_name pieces onto_first after before has is_open is_closed is_param_byte is_param_sign is_mark is_scheme_byte is_host_byte same_name is_blank is_token_byte
refuses = refl

-- the 65th tuple, which is right otherwise, followed by more, and wrong otherwise
abbrev plain : Bytes → TupleTexts
plain order = record { app = codes "(\"a0\""; subscriber = codes "\"s\""; region = codes "\"NEUTRAL\""; route = codes "\"\""; modifier = codes "\"ROUTE\""; order = order }

refuses_65th : tuple_at names 64 (plain (codes "\"64\")")) ≡ Err 9
unfolding digits tuple_at counted tuple_of route_of modifier_of region_of unquoted parted is_parted behind_tuple opening is_closing quoted closed behind then_read is_blank_text drop_blanks begins after before has is_blank
refuses_65th = refl

refuses_65th_followed : tuple_at names 64 (plain (codes "\"64\")?")) ≡ Err 9
unfolding digits tuple_at counted tuple_of route_of modifier_of region_of unquoted parted is_parted behind_tuple opening is_closing quoted closed behind then_read is_blank_text drop_blanks begins after before has is_blank
refuses_65th_followed = refl

refuses_65th_order : tuple_at names 64 (plain (codes "\"65\")")) ≡ Err 5
unfolding digits tuple_at counted tuple_of route_of modifier_of region_of unquoted parted is_parted behind_tuple opening is_closing quoted closed behind then_read is_blank_text drop_blanks begins after before has is_blank
refuses_65th_order = refl

-- a long text, whatever its lines are
refuses_long : (text : Bytes) (apps : List Bytes) → nat_lt 65536 (length text) ≡ true → table_of text apps ≡ Err (record { line = 0; kind = 8 })
unfolding table_of
refuses_long text apps h = rw h refl

-- ## Writing

writes_table : dar_text table names ≡ codes "INVITE: (\"a0\", \"DAR:From\", \"NEUTRAL\", \"\", \"NO_ROUTE\", \"0\"), (\"a1\", \"bob\", \"TERMINATING\", \"sip:h;lr\", \"ROUTE_BACK\", \"1\")\nBYE: (\"a2\", \"\", \"ORIGINATING\", \"\", \"ROUTE\", \"0\")\n"
unfolding digits dar_text list_text tuples_text lead tuple_text tuple_front tuple_back app_text between route_text modifier_text region_text uri_text sip_uri_text scheme ended_text port_text params_text param_text signed_text
writes_table = refl

pub mod grammar
pub mod lexical
pub mod strings
pub mod sources
pub mod values
pub mod layouts
pub mod steps
pub mod documents
pub mod theory
pub mod examples
pub use Rattle.std.specs.Fmt.{decimal, signed_decimal}
unfoldable pub use grammar.*
unfoldable pub use lexical.*
unfoldable pub use strings.*
unfoldable pub use sources.*
unfoldable pub use values.*
unfoldable pub use layouts.*
unfoldable pub use steps.*
unfoldable pub use documents.*
unfoldable pub use theory.*
unfoldable pub use examples.*
pub use grammar.{AnyOf, Both, Class, Either, Empty, Except, Expr, First, Fits, Grammar, Improper, IsLeast, Leaf, Many}
pub use grammar.{More, Node, Nothing, One, ParseTree, Place, Reason, RejectedNode, Row, Second, Spelled, Stop, Sym, Then}
pub use grammar.{Token, Unexpected, accepts, fits_both, fits_first, fits_leaf, fits_more}
pub use grammar.{fits_node, fits_nothing, fits_second, fits_stop, is_listed, lax, leads_node, leaves, matches}
pub use grammar.{nowhere, optional, peek, replaced, row, row_at, same_spelling, some_of, with_tables}
pub use lexical.{BeginsNone, BeginsWithElement, HasItems, Ignored, IsTokenizedInto, IsName, Item, LexicalError, Meaning}
pub use lexical.{Piece, IsLexicalElement, Stream, TokenContent, Where, TokenOf, depth_of, is_in_line, is_too_deep, item_at}
pub use lexical.{next_place, past_ignored, past_token, piece_then, start, token_then, too_deep}
unfoldable pub use lexical.{items_of}
unfoldable pub use strings.{common_indent}
pub use sources.{CauseText, FaultText, HasTokens, IsAtEnd, IsEnd, IsMinified, Items, Last, LastIsError, ParseFailure, Spent}
pub use sources.{at, bad_escape, cause_text, duplicate_operation, empty_extension, int_out_of_range, is_unexpected}
pub use sources.{kind_number, malformed_float, max_length, no_memory, no_token, out_of_memory, place_next, place_of}
pub use sources.{split, text_too_long, token_of, tokens_then, too_long, unexpected_end, unexpected_token}
pub use sources.{unknown_location, unknown_operation, unplaced}
pub use steps.{Adds, Consumes, Gives, IsLexicalErrorOf, IsFaultFor, IsList, IsNext, IsReadable, MayFollow, Reads, Rejections}
pub use steps.{SaysNode, Shows, StopsFor, TakesOne, TakesSome, TakesToken, after, halt_reason, ignored_front}
pub use steps.{arguments_brackets, directives_brackets, items_of_stream, kept, lexeme_token, line_end, reason_of}
pub use steps.{sees_class, spelling_of}
pub use values.{AreWellFormedArguments, AreWellFormedDirectives, DirectiveTree, IsWellFormed, IsNameBut, IsPrintableArgument}
pub use values.{IsPrintableDefault, IsPrintableDirective, IsPrintableType, TypeTree, ValueTree, Weights, any}
pub use values.{argument_view, arguments_depth, arguments_symbol, arguments_view, default_depth}
pub use values.{default_symbol, directive_symbol, directive_view, directives_depth, directives_of}
pub use values.{directives_symbol, directives_view, each_of, enclosed_of, erase, erase_all, first_place, has_any}
pub use values.{in_brackets, is_there, joined_of, keyword, location_class, most, most_around, most_enclosed, name}
pub use values.{named, no_place, optional_arguments_of, optional_default_of, optional_list_of, optional_of, place_at}
pub use values.{punctuator, punctuator_class, sample, separated_of, shared, shared_symbols, spelling_at, type_of}
pub use values.{type_symbol, type_view, value_brackets, value_view, valued, variable, with_rule, word}
unfoldable pub use values.{block_string_of, is_good, string_of, tables, unquoted}
pub use layouts.{Displays, IsNarrow, StyleOptions, Part, arguments_layout, bracket_of, deepest, default_layout}
pub use layouts.{default_style}
pub use layouts.{description_levels, directives_layout, gap, has_block_form, has_block_lines, in_block_form, in_braces}
pub use layouts.{in_levels, in_parentheses, name_part, punctuator_part, quoted, separated, spaces, string_layout}
pub use layouts.{text_of, token, type_layout, with_indent, with_multiline}
unfoldable pub use steps.{block_end, comment, front, items, items_in, number, other_token, quoted_front, string_end}
pub use documents.{ReturnsUnlessOutOfMemory, AreAlike, OutputsParseBack, HasNarrow, HasNoValue, HasNone, HasOneFaultEach}
pub use documents.{IsDocument, IsDocumentOf, IsFirstError, IsParsed, ParsesBackTo, IsErrorFor, IsErrorOf, IsWide}
pub use documents.{IsWrittenOf, Language, NoneGoesOn, ParsesDocument, ParsesStream, ReadsDocument, numbered}
pub use documents.{past_bound, reading}
pub use theory.{After, AsFirst, Before, Change, EachIsFactored, Extends, Fails, Growth, InParts, InSides, RejectsTokens}
pub use theory.{Same, Takes, TestsAlike, change_at, cont, decides, either_way, fails_after, fails_before, fails_check}
pub use theory.{fails_node, fails_one, fails_value, first, grown, growth_at, in_second, is_below, is_row, out_of_head}
pub use theory.{all_within, out_of_prefix, out_of_sides, out_of_symbols, sees, solve, takes_both, takes_first}
pub use theory.{takes_leaf}
pub use theory.{all_apart, in_any, takes_node, takes_nothing, takes_second, takes_stop, unchanged, with_rows, written}

use Rattle.std.proofs.Common.{◌≡◌, ◌++◌, Err, List, ℕ, Option, Some, None, sym, subst, ◌∙◌, ap, append-nil}
use Rattle.std.proofs.lemmas.Result.{err_from_is_err_and, IfErr-at_err, on_ok_weaker}
use Rattle.std.proofs.lemmas.Str.{IsUtf8-string_bytes}
use Rattle.std.specs.Str.{IsUtf8}
use Rattle.std.specs.Io.KnownBytes.{Appends, Consumes, IsAtEnd}
use Rattle.graphql_core.specs.{StyleOptions}
use Rattle.graphql_parser.proofs.Mapped.{at_passed}
use Rattle.gql.specs.{IsOutputOf, EndsEngine, ReadsAll, ReadsText, WritesPart}
use Rattle.gql.specs.declared.command.Command.{Command}
use Rattle.gql.specs.declared.error.RunError.{RunError}
use Rattle.gql.specs.declared.error.RunError.TheVariants as error
use Rattle.gql.proofs.engine.run.Given.{Over}
use Rattle.gql.proofs.engine.run.Goals as goal

-- reading to the end reads all that was left
reads_all : (old new : Option (List ℕ)) (text : List ℕ) (P : List ℕ → Type 0) → Consumes old new text → IsAtEnd new → P text → ReadsAll old new P
reads_all None new text P h e p = (e, tt)
reads_all (Some xs) None text P h e p = absurd h
reads_all (Some xs) (Some ys) text P h e p =
    (e, subst P (sym (h ∙ ap (λ l. text ++ l) e ∙ append-nil text)) p)

-- the output for the bytes that were read is one for all that was left
reads_for_output : (command : Command) (style : StyleOptions) (old new : Option (List ℕ)) (text bytes made output : List ℕ) (P : List ℕ → Type 0)
    → IsUtf8 text → text ≡ bytes → output ≡ made → Consumes old new bytes → IsAtEnd new → IsOutputOf command style text made → P output
    → ReadsText old new (λ input. (x : List ℕ) × IsOutputOf command style input x × P x)
reads_for_output command style old new text bytes made output P utf8 same_text same_output taken end is h =
    let of_bytes = subst (λ t. IsOutputOf command style t output) same_text (subst (IsOutputOf command style text) (sym same_output) is) in
    reads_all old new bytes _ taken end (subst IsUtf8 same_text utf8, (output, of_bytes, h))

-- an error of the engine for the bytes that were read is one for all that was left
ended : (g : Over) (c : goal.After-from_residual-in_err-output g) (e : RunError) → c.from_residual-in_err-output.result ≡ Err e
    → ReadsText (g.R.Read.remaining c.args.reader.now.device) (g.R.Read.remaining c.read_all.new.reader.device)
    (λ input. EndsEngine c.args.command c.args.style.now input e)
ended g c e is =
    let read = c.in_ok-bytes.ensures in
    let same = ap (λ v. v.items) (at_passed _ _ _ c.map_err.ensures.cases c.map_err.ensures.variant c.in_ok-text.was c.from_utf8.ensures.ok) in
    let passed = err_from_is_err_and c.from_residual-in_err-output.result c.from_residual-in_err-output.ensures.1 in
    let why : c.in_err-output.field-0.0 ≡ e = cc (passed.1, passed.2) in
    let none = subst (EndsEngine c.args.command c.args.style.now _) why c.in_err-output.ensures in
    reads_all _ _ _ _ read.bytes read.end
    (subst IsUtf8 same (IsUtf8-string_bytes c.in_ok-text.text), subst (λ text. EndsEngine c.args.command c.args.style.now text e) same none)

pub returns-in_err-output-clause-query : goal.returns-in_err-output-clause-query
returns-in_err-output-clause-query g c e is = ended g c (error.Query e) is

pub returns-in_err-output-clause-schema : goal.returns-in_err-output-clause-schema
returns-in_err-output-clause-schema g c e is = ended g c (error.Schema e) is

pub returns-in_err-output-clause-minify : goal.returns-in_err-output-clause-minify
returns-in_err-output-clause-minify g c e is = ended g c (error.Minify e) is

pub returns-in_err-output-clause-format : goal.returns-in_err-output-clause-format
returns-in_err-output-clause-format g c e is = ended g c (error.Format e) is

pub returns-clause-ok : goal.returns-clause-ok
returns-clause-ok g c =
    let read = c.in_ok-bytes.ensures in
    let same = ap (λ v. v.items) (at_passed _ _ _ c.map_err.ensures.cases c.map_err.ensures.variant c.in_ok-text.was c.from_utf8.ensures.ok) in
    on_ok_weaker c.write_all.result
    (reads_for_output c.args.command _ _ _ _ _ _ _
    (Appends _ _) (IsUtf8-string_bytes c.in_ok-text.text) same c.as_bytes.ensures.value read.bytes read.end c.in_ok-output.ensures) c.write_all.ensures.ok

pub returns-clause-write : goal.returns-clause-write
returns-clause-write g c = λ is.
    let read = c.in_ok-bytes.ensures in
    let same = ap (λ v. v.items) (at_passed _ _ _ c.map_err.ensures.cases c.map_err.ensures.variant c.in_ok-text.was c.from_utf8.ensures.ok) in
    let failed = IfErr-at_err _ is c.write_all.ensures.err in (
      failed.1,
      reads_for_output c.args.command _ _ _ _ _ _ _
          (WritesPart _ _) (IsUtf8-string_bytes c.in_ok-text.text) same c.as_bytes.ensures.value read.bytes read.end c.in_ok-output.ensures failed.2,
    )

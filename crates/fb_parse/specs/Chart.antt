-- The forms of transitions and algorithms.
use Rattle.std.specs.Prelude.{List, [], ◌∷◌, map, Option, Some, None}
use Rattle.fb_tree.specs.Text.declared.name.NameUse.{NameUse}
use Rattle.fb_structured_text.specs.Forms.declared.kind.Kind.TheVariants.{One, OpenBracket, CloseBracket, Ampersand, And, To, Assign, Semicolon, Colon, EcTransitions, EndTransitions, Algorithm, EndAlgorithm, Name, NameIn, NameOn, NameSt}
use Rattle.fb_structured_text.specs.Forms.Words.{key, before, behind, passed}
use Rattle.fb_structured_text.specs.{Forms.Lexemes.{name_use}, Forms.Form.{Form, one, both, either, option, many, as_value}}
unfoldable pub use Rattle.fb_structured_text.specs.Forms.Words.{name}
use Rattle.fb_tree.specs.{Expression.{Expression}, Statement.{Statement, statement_tree}}
use Rattle.fb_tree.specs.{Tree.{ConditionTree, always, on_event, guarded, guard, TransitionTree, AlgorithmTree}, declared.network.End.{End}}
use Rattle.fb_parse.specs.declared.chart.AlgorithmBody.{AlgorithmBody}
use Rattle.fb_sections.specs.{Network.{end}, Sections.{section}, Skipped.{skipped}}
use Rattle.fb_structured_text.specs.{Expression.{levels, expression}, Statement.{statement}}

-- '[' expr ']'
unfoldable pub bracketed : Form Expression
bracketed = behind (key OpenBracket) (before (expression levels) (key CloseBracket))

-- ('&' | 'AND') expr
unfoldable pub joined_test : Form Expression
joined_test = behind (one (Ampersand ∷ And ∷ [])) (expression levels)

-- ['[' expr ']' | ('&' | 'AND') expr]
unfoldable pub optional_test : Form (Option Expression)
optional_test = option (either bracketed joined_test)

abbrev pub on_event_with : End → Option Expression → ConditionTree
on_event_with event None = on_event event
on_event_with event (Some test) = guarded event test

-- end ['[' expr ']' | ('&' | 'AND') expr]
unfoldable pub event_condition : Form ConditionTree
event_condition = as_value (λ v. on_event_with v.0 v.1) (both end optional_test)

-- the NUMBER `1` | end ['[' expr ']' | ('&' | 'AND') expr] | '[' expr ']'
unfoldable pub condition : Form ConditionTree
condition =
    either (as_value (λ token. always token.span) (key One))
    (either (as_value guard bracketed) event_condition)

-- name 'TO' name ':=' cond ';'
unfoldable pub transition : Form TransitionTree
transition =
    as_value (λ v. record { source = v.0; destination = v.1.0; condition = v.1.1 })
    (both name (behind (key To) (both name (behind (key Assign) (before condition (key Semicolon))))))

-- 'EC_TRANSITIONS' {name 'TO' name ':=' cond ';'} 'END_TRANSITIONS'
unfoldable pub transitions : Form (List TransitionTree)
transitions = section EcTransitions transition EndTransitions

-- [':']
unfoldable pub optional_colon : Form (Unit {0})
optional_colon = passed (option (key Colon))

-- 'ST' [':'] {stmt}
unfoldable pub structured_text : Form (NameUse × List Statement)
structured_text = both (as_value name_use (key NameSt)) (behind optional_colon (many (statement levels)))

-- another language, and any tokens but 'END_ALGORITHM'
unfoldable pub other_language : Form (NameUse × List Statement)
other_language = both (as_value name_use (one (Name ∷ NameIn ∷ NameOn ∷ []))) (as_value (λ _. []) (skipped EndAlgorithm))

-- the language and the body of an algorithm
unfoldable pub algorithm_body : Form (NameUse × List Statement)
algorithm_body = either structured_text other_language

abbrev pub algorithm_body_tree : AlgorithmBody → NameUse × List Statement
algorithm_body_tree body = (body.language, map statement_tree body.statements.items)

-- 'ALGORITHM' name 'IN' name body 'END_ALGORITHM'
unfoldable pub algorithm : Form AlgorithmTree
algorithm =
    as_value (λ v. record { name = v.0; language = v.1.0; statements = v.1.1 })
    (behind (key Algorithm) (both name (behind (key NameIn) (before algorithm_body (key EndAlgorithm)))))

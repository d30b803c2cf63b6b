-- The rules of classes, by the functions of the check.
use Rattle.fb_laws.proofs.Common.{◌≡◌, ◌≢◌, false, Option, Some, None, unwrap_or, refl, sym, ap, ◌∙◌, true≢false, option_and_then, false_from_ne_true, is_free, takes, Class, B, I, Free, Any, arithmetical, change, class_of_broken, combined, join, logical, operation, pair_class, whole as whole_of, allows, ClassPlace, Joins, Takes, IsLogical, Calculates, Divides, Changes, JoinsTruths, Compares, IsArithmetic, Makes, Combines, Spoils, Results, Fits, arith, ◌↔◌}
use Rattle.fb_laws.proofs.Lists.{iff}
use Rattle.fb_tree.specs.{declared.expression.BinaryOperator.{BinaryOperator}, declared.expression.BinaryOperator.TheVariants.{Modulo}}
use Rattle.fb_tree.specs.{declared.expression.UnaryOperator.{UnaryOperator}, declared.expression.UnaryOperator.TheVariants.{Plus, Minus, Not}}

-- a class that comes of a rule, where the check has one
pub data Known (P : Class → Type 0) : Option Class → Type 0 where
  gives : {g : Class} → P g → Known P (Some g)
  fails : Known P None

mapped : {P Q : Class → Type 0} {o : Option Class} → ((g : Class) → P g → Q g) → Known P o → Known Q o
mapped f fails = fails
mapped f (gives p) = gives (f _ p)

pub none_of : {P : Class → Type 0} {o : Option Class} → ((g : Class) → P g → o ≡ Some g) → o ≡ None → (g : Class) → ¬ P g
none_of told e g p = cc (told g p)

pub missing : {P : Class → Type 0} {o : Option Class} → Known P o → ((g : Class) → ¬ P g) → o ≡ None
missing {P} {o} known none = grind arith

-- joins

ruleset known = (fails, gives)

ruleset joined = (Joins.equal, Joins.whole_left, Joins.whole_right, Joins.number_right_whole, Joins.number_right_bits, Joins.number_right_other, Joins.number_left_whole, Joins.number_left_bits, Joins.number_left_other)

pub joins : (a b : Class) → Known (Joins a b) (join a b)
joins B B = gives (Joins.equal B)
joins a Free = gives (Joins.free_right a)
joins Free b = gives (Joins.free_left b)
joins a Any = gives (Joins.any_right a)
joins Any b = gives (Joins.any_left b)
joins a b = search (known, joined)

pub told_join : (a b c : Class) → Joins a b c → join a b ≡ Some c
told_join a b c is = grind arith

-- constants

ruleset constants = (Takes.truth, Takes.truth_any, Takes.whole, Takes.whole_number, Takes.whole_any, Takes.bits, Takes.bits_number, Takes.bits_any, Takes.other, Takes.other_whole, Takes.other_number, Takes.other_any, Takes.free_type, Takes.free_constant)

pub not_taken : (kind constant : Class) → takes kind constant ≡ false → ¬ Takes kind constant
not_taken kind constant e is = grind arith

pub untaken : (kind constant : Class) → ¬ Takes kind constant → takes kind constant ≡ false
untaken kind constant none = false_from_ne_true (takes kind constant) (λ e. none (grind (arith, constants)))

pub not_free : (c : Class) → is_free c ≡ false → c ≢ Free
not_free c e is = true≢false (sym (ap is_free is) ∙ e)

pub judged : (c : Class) → c ≢ Free → is_free c ≡ false
judged c other = grind arith

-- what operators work on

-- a class that logic keeps
data Keeps (c : Class) : Class → Type 0 where
  keeps : IsLogical c → Keeps c c

ruleset kinds = (keeps, IsLogical.bits, IsLogical.free, IsLogical.number, IsLogical.any, Calculates.other, Calculates.free, Calculates.number, Calculates.any, Divides.free, Divides.number, Divides.any)

kept : (c : Class) → Known (Keeps c) (logical c)
kept B = gives (keeps IsLogical.truth)
kept c = search (known, kinds)

calculated : (c : Class) → Known (Calculates c) (arithmetical c)
calculated I = gives Calculates.whole
calculated c = search (known, kinds)

divided : (c : Class) → Known (Divides c) (whole_of c)
divided I = gives Divides.whole
divided c = search (known, kinds)

told_logic : (c : Class) → IsLogical c → logical c ≡ Some c
told_logic c is = grind arith

told_calculated : (c g : Class) → Calculates c g → arithmetical c ≡ Some g
told_calculated c g is = grind arith

told_divided : (c g : Class) → Divides c g → whole_of c ≡ Some g
told_divided c g is = grind arith

kept_by : (Q : Class → Type 0) {c : Class} → (IsLogical c → Q c) → (g : Class) → Keeps c g → Q g
kept_by Q make g (keeps l) = make l

pub changes : (operator : UnaryOperator) (c : Class) → Known (Changes operator c) (change operator c)
changes Not c = mapped (kept_by (Changes Not c) Changes.not) (kept c)
changes Plus c = mapped (λ g k. Changes.plus k) (calculated c)
changes Minus c = mapped (λ g k. Changes.minus k) (calculated c)

pub told_change : (operator : UnaryOperator) (c g : Class) → Changes operator c g → change operator c ≡ Some g
told_change operator c g is = grind (arith, told_logic, told_calculated)

-- the kinds of operators
ruleset logics = (JoinsTruths.or, JoinsTruths.xor, JoinsTruths.and)

ruleset comparisons = (Compares.equal, Compares.not_equal, Compares.less, Compares.greater, Compares.less_or_equal, Compares.greater_or_equal)

ruleset calculations = (IsArithmetic.add, IsArithmetic.subtract, IsArithmetic.multiply, IsArithmetic.divide, IsArithmetic.power)

by_logic : (operator : BinaryOperator) → JoinsTruths operator → (c : Class) → Known (Makes operator c) (logical c)
by_logic operator is c = mapped (kept_by (Makes operator c) (Makes.logic is)) (kept c)

by_arithmetic : (operator : BinaryOperator) → IsArithmetic operator → (c : Class) → Known (Makes operator c) (arithmetical c)
by_arithmetic operator is c = mapped (λ g k. Makes.arithmetic is k) (calculated c)

ruleset made = (by_logic, by_arithmetic, gives, Makes.comparison)

makes : (operator : BinaryOperator) (c : Class) → Known (Makes operator c) (operation operator c)
makes Modulo c = mapped (λ g k. Makes.modulo k) (divided c)
makes operator c = search (made, logics, comparisons, calculations)

told_makes : (operator : BinaryOperator) (c g : Class) → Makes operator c g → operation operator c ≡ Some g
told_makes operator c g (Makes.logic JoinsTruths.or l) = told_logic c l
told_makes operator c g (Makes.logic is l) = told_logic c l
told_makes operator c g (Makes.comparison Compares.equal) = refl
told_makes operator c g (Makes.comparison is) = refl
told_makes operator c g (Makes.arithmetic IsArithmetic.add n) = told_calculated c g n
told_makes operator c g (Makes.arithmetic is n) = told_calculated c g n
told_makes operator c g (Makes.modulo n) = told_divided c g n

pub combines : (operator : BinaryOperator) (a b : Class) → Known (Combines operator a b) (combined operator a b)
combines operator a b = by_join (joins a b)
  where
    by_join : {o : Option Class} → Known (Joins a b) o → Known (Combines operator a b) (option_and_then (operation operator) o)
    by_join fails = fails
    by_join (gives {g = c} j) = mapped (λ g m. Combines.joined c j m) (makes operator c)

pub told_combined : (operator : BinaryOperator) (a b g : Class) → Combines operator a b g → combined operator a b ≡ Some g
told_combined operator a b g (Combines.joined c j m) = ap (option_and_then (operation operator)) (told_join a b c j) ∙ told_makes operator c g m

ruleset spoilt = (Spoils.logic, Spoils.comparison, Spoils.arithmetic)

spoils : (operator : BinaryOperator) → Spoils operator (class_of_broken operator)
spoils Modulo = Spoils.modulo
spoils operator = search (spoilt, logics, comparisons, calculations)

told_spoils : (operator : BinaryOperator) (g : Class) → Spoils operator g → class_of_broken operator ≡ g
told_spoils operator g is = grind arith

pub results : (operator : BinaryOperator) (a b : Class) → Results operator a b (pair_class operator a b)
results operator a b = by_case refl (combines operator a b)
  where
    by_case : {o : Option Class} → combined operator a b ≡ o → Known (Combines operator a b) o → Results operator a b (unwrap_or o (class_of_broken operator))
    by_case e (gives p) = Results.met p
    by_case e fails = Results.broken (none_of (told_combined operator a b) e) (spoils operator)

pub told_results : (operator : BinaryOperator) (a b g : Class) → Results operator a b g → pair_class operator a b ≡ g
told_results operator a b g (Results.met p) = ap (λ (o : Option Class). unwrap_or o (class_of_broken operator)) (told_combined operator a b g p)
told_results operator a b g (Results.broken none s) = ap (λ (o : Option Class). unwrap_or o (class_of_broken operator)) (missing (combines operator a b) none) ∙ told_spoils operator g s

-- places

ruleset fitting = (Fits.truth, Fits.any_truth, Fits.whole, Fits.number, Fits.any_number, Fits.counter, Fits.selector, Fits.free)

pub misfits : (place : ClassPlace) (c : Class) → allows place c ≡ false ↔ (¬ Fits place c)
misfits place c = iff (λ e f. grind arith) (λ none. false_from_ne_true (allows place c) (λ e. none (grind (arith, fitting))))

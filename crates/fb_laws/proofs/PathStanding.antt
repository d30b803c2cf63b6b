-- Where names lead to in a sound system is what is at their path.
use Rattle.fb_laws.proofs.Common.{arith, ◌≡◌, ◌≢◌, ℕ, Bool, false, not, List, [], ◌∷◌, ◌++◌, Option, Some, refl, sym, ap, ◌∙◌, subst, append_assoc, append-nil, true≢false, is_none, contains_nothing, ApplicationTree, DeclTree, InstanceTree, SystemTree, subapplication_type, Sources, tree_at, IsSound, PlainResolved, application_called, inner_instances, is_placed, leads_nowhere, resolved_among, resolved_at, resolved_beyond, resolved_inside, IsSystemAt, IsAtPath, IsOfSomething, in_application, inside, of_application, Contains, option_and_then, Path}
use Rattle.fb_laws.proofs.{Lists.{by_option}, HomeLemmas.{found_in}, PathHolders.{applications_apart, first_own, holder_of, instances_apart, is_subapplication, type_apart, type_below}}
use Rattle.fb_placing.proofs.ResolvedLemmas.{at_more, beyond_nothing}
use Rattle.fb_laws.specs.Paths.{of_block, of_subapplication}
use Rattle.fb_placing.specs.Resolved.{resolved_from, resolved_in}

-- ---- from names to what is there

module _ (sources : Sources) (unit : List ℕ) (s : SystemTree) (is : IsSystemAt sources unit s) (sound : IsSound sources unit) where
  step_in : (path : Path) (i : InstanceTree) → IsAtPath sources s path i → (name : List ℕ) (j : InstanceTree) (tree : Option DeclTree) → tree_at sources i.type_name.name ≡ tree → Contains (inner_instances tree) j → j.name.name ≡ name → IsAtPath sources s (path ++ name ∷ []) j
  step_in path i at name j (Some (subapplication_type d)) there c named = grind (arith, is_subapplication, holder_of, inside)
  step_in path i at name j o there c named = absurd (contains_nothing j c)

  next_at : (path : Path) (st : PlainResolved) → IsAtPath sources s path st.instance → (name : List ℕ) (next : PlainResolved) → resolved_inside sources name st ≡ Some next → IsAtPath sources s (path ++ name ∷ []) next.instance
  next_at path st at name next e =
      let type = st.instance.type_name.name in
      let f = found_in (λ (i : InstanceTree). i.name.name) (resolved_in type) (inner_instances (tree_at sources type)) name next e in
      subst (λ (i : InstanceTree). IsAtPath sources s (path ++ name ∷ []) i) (ap (λ (t : PlainResolved). t.instance) f.gives)
      (step_in path st.instance at name f.item (tree_at sources type) refl f.among f.named)

  beyond_at : (names : Path) (path : Path) (st end : PlainResolved) → IsAtPath sources s path st.instance → resolved_beyond sources (Some st) names ≡ Some end → IsAtPath sources s (path ++ names) end.instance
  beyond_at [] path st end at e = grind (arith, append-nil)
  beyond_at (name ∷ names) path st end at e =
      by_option (resolved_inside sources name st) (λ none. absurd (let nothing = beyond_nothing sources names in let no : ⊥ = cc in no)) (λ next f.
      let go : resolved_beyond sources (Some next) names ≡ Some end = cc in
      subst (λ (p : Path). IsAtPath sources s p end.instance) (append_assoc path (name ∷ []) names) (beyond_at names (path ++ name ∷ []) next end (next_at path st at name next f) go))

  pub lead_to : (a name : List ℕ) (names : Path) (end : PlainResolved) → resolved_at sources unit s.applications (a ∷ name ∷ names) ≡ Some end → IsAtPath sources s (a ∷ name ∷ names) end.instance
  lead_to a name names end e =
      by_option (application_called s.applications a) (λ none. absurd (let no : ⊥ = cc in no)) (λ it f.
      let x = found_in (λ (x : ApplicationTree). x.name.name) (λ (x : ApplicationTree). x) s.applications a it f in
      by_option (resolved_among unit it.network.instances name) (λ none. absurd (let nothing = beyond_nothing sources names in let no : ⊥ = cc in no)) (λ st g.
      let i = found_in (λ (i : InstanceTree). i.name.name) (resolved_in unit) it.network.instances name st g in
      let among : Contains x.item.network.instances i.item = subst (λ (a : ApplicationTree). Contains a.network.instances i.item) (sym x.gives) i.among in
      let same : i.item ≡ st.instance = ap (λ (t : PlainResolved). t.instance) i.gives in
      let here : IsAtPath sources s (a ∷ name ∷ []) st.instance = grind (arith, in_application) in
      let go : resolved_beyond sources (Some st) names ≡ Some end = cc in
      beyond_at names (a ∷ name ∷ []) st end here go))

  -- ---- and back

  called : (a : ApplicationTree) → Contains s.applications a → application_called s.applications a.name.name ≡ Some a
  called a c = first_own (λ (x : ApplicationTree). x.name) (λ (x : ApplicationTree). x) s.applications (applications_apart sources unit sound s is) a c

  pub led_to : (path : Path) (i : InstanceTree) → IsAtPath sources s path i → (holder : List ℕ) × (resolved_at sources unit s.applications path ≡ Some (resolved_in holder i))
  led_to path end (in_application a i ca ci) = (
    unit,
    ap (option_and_then (λ (it : ApplicationTree). resolved_from sources unit it.network.instances (i.name.name ∷ []))) (called a ca)
        ∙ first_own (λ (j : InstanceTree). j.name) (resolved_in unit) a.network.instances (instances_apart sources unit sound s is a ca) i ci,
  )
  led_to path end (inside {path = before} {outer = outer} type i at role there ci) =
      let name = outer.type_name.name in
      let below = type_below sources unit outer (holder_of sources unit s is before outer at) in
      let up = led_to before outer at in (
        name,
        at_more sources unit s.applications before i.name.name (resolved_in up.0 outer) up.1
            ∙ ap (λ (t : Option DeclTree). resolved_among name (inner_instances t) i.name.name) there
            ∙ first_own (λ (j : InstanceTree). j.name) (resolved_in name) type.network.instances (type_apart sources unit sound name type below there) i ci,
      )

  -- ---- what leads nowhere

  abbrev nowhere : Path → Bool
  nowhere names = leads_nowhere sources unit s.applications names

  -- names that lead somewhere
  pub somewhere : (path : Path) → path ≢ [] → nowhere path ≡ false → IsOfSomething sources s path
  somewhere [] some e = absurd (some refl)
  somewhere (first ∷ []) some e =
      by_option (application_called s.applications first) (λ none. absurd (true≢false (sym (ap is_none none) ∙ e))) (λ it f.
      let found = found_in (λ (x : ApplicationTree). x.name.name) (λ (x : ApplicationTree). x) s.applications first it f in
      subst (λ (n : List ℕ). IsOfSomething sources s (n ∷ [])) found.named (of_application found.item found.among))
  somewhere (first ∷ (name ∷ names)) some e =
      by_option (resolved_at sources unit s.applications (first ∷ name ∷ names)) (λ none. absurd (let no : ⊥ = cc in no)) (λ st f.
      let placed : not (is_placed st.instance.role) ≡ false = cc in
      let at = lead_to first name names st f in
      grind (arith, of_block, of_subapplication))

  -- and those of something do
  pub of_something : (path : Path) → IsOfSomething sources s path → nowhere path ≡ false
  of_something path there = grind (arith, called, of_block, led_to, of_subapplication)

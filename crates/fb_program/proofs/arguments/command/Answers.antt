use Rattle.std.proofs.Common.{◌||◌, ◌≡◌, ◌∙◌, Bool, ap, ap₂, false, rules}
use Rattle.clap.specs.Words.{App, app_of, with_rule, with_subcommand}
use Rattle.fb_program.specs.Words.{host_app, named_app, script_app, serve_app}
use Rattle.fb_program.proofs.arguments.command.Goals as goal

neither : {a b : Bool} → a ≡ false → b ≡ false → a || b ≡ false
neither one two = ap₂ (λ (x y : Bool). x || y) one two

pub returns : goal.returns
returns c =
    let units = c.in_ok-arg.ensures.shape c.units_option.ensures.local ∙ ap₂ with_rule c.new.ensures.app c.units_option.ensures.rule in
    let script : app_of c.in_ok-script.script ≡ script_app = c.in_ok-script.ensures.shape c.history_option.ensures.local ∙ ap₂ with_rule units c.history_option.ensures.rule in
    let port = c.in_ok-arg-2.ensures.shape c.port_option.ensures.local ∙ ap₂ with_rule c.new-2.ensures.app c.port_option.ensures.rule in
    let workers = c.in_ok-arg-3.ensures.shape c.workers_option.ensures.local ∙ ap₂ with_rule port c.workers_option.ensures.rule in
    let sessions = c.in_ok-arg-4.ensures.shape c.number_option.ensures.local ∙ ap₂ with_rule workers c.number_option.ensures.rule in
    let limited = c.in_ok-arg-5.ensures.shape c.units_option-2.ensures.local ∙ ap₂ with_rule sessions c.units_option-2.ensures.rule in
    let serve : app_of c.in_ok-serve.serve ≡ serve_app = c.in_ok-serve.ensures.shape c.history_option-2.ensures.local ∙ ap₂ with_rule limited c.history_option-2.ensures.rule in
    let local_to_script = c.in_ok-script.ensures.globals ∙ neither (c.in_ok-arg.ensures.globals ∙ neither c.new.ensures.local c.units_option.ensures.local) c.history_option.ensures.local in
    let local_sizes = c.in_ok-arg-3.ensures.globals ∙ neither (c.in_ok-arg-2.ensures.globals ∙ neither c.new-2.ensures.local c.port_option.ensures.local) c.workers_option.ensures.local in
    let local_options = c.in_ok-arg-5.ensures.globals ∙ neither (c.in_ok-arg-4.ensures.globals ∙ neither local_sizes c.number_option.ensures.local) c.units_option-2.ensures.local in
    let local_to_serve = c.in_ok-serve.ensures.globals ∙ neither local_options c.history_option-2.ensures.local in
    let host_port = c.in_ok-arg-6.ensures.shape c.port_option-2.ensures.local ∙ ap₂ with_rule c.new-3.ensures.app c.port_option-2.ensures.rule in
    let host_workers = c.in_ok-arg-7.ensures.shape c.workers_option-2.ensures.local ∙ ap₂ with_rule host_port c.workers_option-2.ensures.rule in
    let host_sessions = c.in_ok-arg-8.ensures.shape c.number_option-2.ensures.local ∙ ap₂ with_rule host_workers c.number_option-2.ensures.rule in
    let host_units = c.in_ok-arg-9.ensures.shape c.units_option-3.ensures.local ∙ ap₂ with_rule host_sessions c.units_option-3.ensures.rule in
    let host_history = c.in_ok-arg-10.ensures.shape c.history_option-3.ensures.local ∙ ap₂ with_rule host_units c.history_option-3.ensures.rule in
    let host_memory = c.in_ok-arg-11.ensures.shape c.number_option-3.ensures.local ∙ ap₂ with_rule host_history c.number_option-3.ensures.rule in
    let host_secret = c.in_ok-arg-12.ensures.shape c.secret_option.ensures.local ∙ ap₂ with_rule host_memory c.secret_option.ensures.rule in
    let host_open = c.in_ok-arg-13.ensures.shape c.open_option.ensures.local ∙ ap₂ with_rule host_secret c.open_option.ensures.rule in
    let host_idle = c.in_ok-arg-14.ensures.shape c.idle_option.ensures.local ∙ ap₂ with_rule host_open c.idle_option.ensures.rule in
    let host : app_of c.in_ok-host.host ≡ host_app = c.in_ok-host.ensures.shape c.number_option-4.ensures.local ∙ ap₂ with_rule host_idle c.number_option-4.ensures.rule in
    let host_first = c.in_ok-arg-7.ensures.globals ∙ neither (c.in_ok-arg-6.ensures.globals ∙ neither c.new-3.ensures.local c.port_option-2.ensures.local) c.workers_option-2.ensures.local in
    let host_sizes = c.in_ok-arg-9.ensures.globals ∙ neither (c.in_ok-arg-8.ensures.globals ∙ neither host_first c.number_option-2.ensures.local) c.units_option-3.ensures.local in
    let host_bounds = c.in_ok-arg-11.ensures.globals ∙ neither (c.in_ok-arg-10.ensures.globals ∙ neither host_sizes c.history_option-3.ensures.local) c.number_option-3.ensures.local in
    let host_files = c.in_ok-arg-13.ensures.globals ∙ neither (c.in_ok-arg-12.ensures.globals ∙ neither host_bounds c.secret_option.ensures.local) c.open_option.ensures.local in
    let host_words = c.in_ok-arg-14.ensures.globals ∙ neither host_files c.idle_option.ensures.local in
    let local_to_host = c.in_ok-host.ensures.globals ∙ neither host_words c.number_option-4.ensures.local in
    let named : app_of c.subcommand_required.result ≡ named_app = search rules in
    let first = c.in_ok-subcommand.ensures.shape local_to_script ∙ ap₂ with_subcommand named (ap (λ (a : App). a.top) script) in
    let second = c.in_ok-subcommand-2.ensures.shape local_to_serve ∙ ap₂ with_subcommand first (ap (λ (a : App). a.top) serve) in
    c.in_ok-command.ensures.shape local_to_host ∙ ap₂ with_subcommand second (ap (λ (a : App). a.top) host)

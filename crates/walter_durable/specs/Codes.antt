-- How the logic stores sites in some order.
use Rattle.std.specs.Prelude.{List, refl}
use Rattle.std.specs.Coded.{Coded, code_by, coded_ℕ, coded_list}
use Rattle.walter_base.specs.declared.names.SiteId.{SiteId}

abbrev pub sites_code : Coded (List SiteId)
sites_code = coded_list (code_by _ coded_ℕ (λ site. site.0) (λ k. record { 0 = k }) (λ _. refl))
